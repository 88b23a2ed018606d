-- Laws of whole sources.
use Rattle.std.specs.Prelude.{◌≡◌, ◌↔◌, List, [], ◌∷◌, ◌++◌, false}
use Rattle.liquid_model.specs.Texts.{Text}
use Rattle.liquid_model.specs.Bytes.{open_brace}
use Rattle.liquid_lexer.specs.Openers.{opener}
use Rattle.liquid_lexer.specs.Pieces.{Piece, IsSource}
use Rattle.liquid_lexer.specs.Styles.{only_items, styled}
use Rattle.liquid_lexer.specs.declared.item.Delimiter.{Delimiter}
use Rattle.liquid_parser.specs.Parsing.{IsTemplate, IsWrittenTree}
use Rattle.liquid_lexer.specs.declared.style.Style.TheVariants.{Items}
use Rattle.liquid_language.specs.HostTags.{style_in}
use Rattle.liquid_language.specs.Styles.{style_of}
use Rattle.liquid_language.specs.declared.host_tags.HostKind.{HostKind}
use Rattle.liquid_language.specs.declared.registry.Language.{Language}
use Rattle.liquid_evaluation.specs.Tree.{Nodes, no_nodes, node, plain}

-- `{{` and `{%` stand nowhere in the text
abbrev pub HasNoOpener : Text → Type 0
HasNoOpener t = (k : Delimiter) (front following : Text) →
    t ≡ front ++ (open_brace ∷ opener k ∷ following) → ⊥

-- the template of one text; the empty text is the empty template
abbrev pub text_alone : Text → Nodes
text_alone [] = no_nodes
text_alone (b ∷ bs) = node (plain (b ∷ bs)) no_nodes

-- a source without an opener is itself: that one text, in every language
abbrev pub PlainSources : Type 0
PlainSources = (l : Language) (source : Text) → HasNoOpener source →
    IsTemplate l (text_alone source) source

-- a source has at most one tree
abbrev pub AtMostOneTemplate : Type 0
AtMostOneTemplate = (l : Language) (source : Text) (t u : Nodes) → IsTemplate l t source →
    IsTemplate l u source → t ≡ u

-- in a language that drops no white space, a template is what is written
abbrev pub NothingDropped : Type 0
NothingDropped = (l : Language) (t : Nodes) (source : Text) → l.drops_blanks ≡ false →
    IsTemplate l t source ↔ IsWrittenTree l t source

-- in a language without paths, in which each tag and block of the host has items, items alone
-- stand after the names of tags
abbrev pub ItemsWithoutPaths : Type 0
ItemsWithoutPaths = (l : Language) (ps : List Piece) (source : Text) → l.include_paths ≡ false →
    ((kind : HostKind) → style_in l.host_tags kind ≡ Items) →
    (IsSource (styled (style_of l)) false ps source → IsSource only_items false ps source) ×
    (IsSource only_items false ps source → IsSource (styled (style_of l)) false ps source)
