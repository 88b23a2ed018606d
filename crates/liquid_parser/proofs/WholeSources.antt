-- What is said of whole sources: one without openers is one text, a source has at most one tree, without paths tags have items, and
-- a language that drops nothing has the trees that are written.
use Rattle.std.proofs.Common.{◌≡◌, ℕ, List, [], ◌∷◌, Bool, true, false, cond, not, ◌==◌, ◌||◌, ◌&&◌, refl, sym, ap, subst, ◌∙◌, append-nil}
use Rattle.std.proofs.lemmas.Bool.{eqb-true}
use Rattle.liquid_model.specs.Bytes.{plain, open_brace, percent}
use Rattle.liquid_lexer.specs.Openers.{opener}
use Rattle.liquid_lexer.specs.Pieces as pieces
use Rattle.liquid_lexer.specs.Pieces.{last}
use Rattle.liquid_model.specs.Words.{IsRun}
use Rattle.liquid_lexer.specs.declared.item.Delimiter.{Delimiter}
use Rattle.liquid_lexer.specs.declared.item.Delimiter.TheVariants.{Output, Tag}
use Rattle.liquid_model.proofs.WordLaws.{from_some}
use Rattle.liquid_parser.specs.Statements.{is_text}
use Rattle.liquid_parser.specs.Nesting.{none, is_leaf}
use Rattle.liquid_parser.specs.Parsing.{IsTemplate, IsWrittenTree, kept_nodes}
use Rattle.liquid_parser.specs.TemplateLaw.{HasNoOpener, text_alone, PlainSources, AtMostOneTemplate, NothingDropped, ItemsWithoutPaths}
use Rattle.liquid_parser.proofs.TemplateLaws.{written_again}
use Rattle.liquid_syntax.specs.Blanks.{without_blanks}
use Rattle.liquid_evaluation.specs.Tree.{Nodes}
use Rattle.liquid_model.specs.Texts.{Text}
use Rattle.liquid_lexer.proofs.SourceLaws.{items_only, items_styled}
use Rattle.liquid_language.specs.Styles.{style_of}
use Rattle.liquid_language.proofs.ItemsAlone.{items_alone}
use Rattle.liquid_language.specs.declared.registry.Language.{Language}

-- no opener begins at the front
NoneBegins : List ℕ → Type 0
NoneBegins t = (k : Delimiter) (following : List ℕ) → t ≡ open_brace ∷ opener k ∷ following → ⊥

not_opened : (b c : ℕ) (cs : List ℕ) (brace second percents : Bool) → (b == open_brace) ≡ brace → (c == open_brace) ≡ second → (c == percent) ≡ percents → NoneBegins (b ∷ c ∷ cs)
    → not (brace && (second || percents)) ≡ true
unfolding NoneBegins
not_opened b c cs false second percents eb ec ep h = refl
not_opened b c cs true true percents eb ec ep h = absurd (h Output cs (ap (λ x. x ∷ c ∷ cs) (eqb-true b open_brace eb) ∙ ap (λ x. open_brace ∷ x ∷ cs) (eqb-true c open_brace ec)))
not_opened b c cs true false true eb ec ep h = absurd (h Tag cs (ap (λ x. x ∷ c ∷ cs) (eqb-true b open_brace eb) ∙ ap (λ x. open_brace ∷ x ∷ cs) (eqb-true c percent ep)))
not_opened b c cs true false false eb ec ep h = refl

alone : (brace : Bool) → not (brace && false) ≡ true
alone true = refl
alone false = refl

plain_at : (b : ℕ) (bs : List ℕ) → NoneBegins (b ∷ bs) → plain b bs ≡ true
unfolding plain
plain_at b [] h = alone (b == open_brace)
plain_at b (c ∷ cs) h = not_opened b c cs (b == open_brace) (c == open_brace) (c == percent) refl refl refl h

plain_run : (t : List ℕ) → HasNoOpener t → IsRun plain t []
unfolding NoneBegins
plain_run [] h = refl
plain_run (b ∷ bs) h = (subst (λ r. plain b r ≡ true) (sym (append-nil bs)) (plain_at b bs (λ k following e. h k [] following e)), plain_run bs (λ k front following e. h k (b ∷ front) following (ap (λ r. b ∷ r) e)))

plain_written : (l : Language) (source : Text) → HasNoOpener source → IsWrittenTree l (text_alone source) source
unfolding IsWrittenTree
plain_written l [] h = ([], last (plain_run [] h), none)
plain_written l (b ∷ bs) h = (pieces.text (b ∷ bs) ∷ [], last (plain_run (b ∷ bs) h), is_leaf is_text none)

-- a text that stands in no block is never dropped
text_kept : (drops : Bool) (t : Text) → text_alone t ≡ cond drops (without_blanks (text_alone t)) (text_alone t)
text_kept true [] = refl
text_kept true (b ∷ bs) = refl
text_kept false t = refl

pub plain_sources : PlainSources
unfolding IsTemplate
plain_sources l source h = (text_alone source, plain_written l source h, text_kept l.drops_blanks source)

pub at_most_one_template : AtMostOneTemplate
unfolding IsTemplate
at_most_one_template l source t u (v, this, kept) (w, that, also) =
    kept ∙ ap (kept_nodes l) (from_some (sym (written_again l v source this) ∙ written_again l w source that)) ∙ sym also

all_kept : (l : Language) → l.drops_blanks ≡ false → (u : Nodes) → kept_nodes l u ≡ u
all_kept l e u = ap (λ (b : Bool). cond b (without_blanks u) u) e

pub nothing_dropped : NothingDropped
unfolding IsTemplate
nothing_dropped l t source e =
    (λ (u, is, kept). subst (λ (v : Nodes). IsWrittenTree l v source) (sym (kept ∙ all_kept l e u)) is, λ is. (t, is, sym (all_kept l e t)))

pub items_without_paths : ItemsWithoutPaths
items_without_paths l ps source e each = (items_only (style_of l) (items_alone l e each) false ps source, items_styled (style_of l) (items_alone l e each) false ps source)
