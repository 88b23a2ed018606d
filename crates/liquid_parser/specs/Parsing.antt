-- What `parse` reads: the one tree that the written grammar gives a source, without the white space
-- that the language drops.
--     IsWrittenTree l u source   the written grammar gives the source the tree u, in a language
--     IsTemplate l t source      the tree of the source's template is t, in a language
use Rattle.std.specs.Prelude.{◌≡◌, ◌≤◌, List, [], cond, false, Result, Ok, Err, MatchBool, ⊤}
use Rattle.liquid_model.specs.Answer.{IsTheOne}
use Rattle.liquid_model.specs.Texts.{Text}
use Rattle.liquid_model.specs.ErrorKinds.{is_memory, number_of}
use Rattle.liquid_model.specs.declared.error.Error.{Error}
use Rattle.liquid_model.specs.declared.error.ErrorKind.{ErrorKind}
use Rattle.liquid_parser.specs.Statements.{IsStatement}
use Rattle.liquid_parser.specs.Nesting.{AreNodes}
use Rattle.liquid_lexer.specs.Pieces.{Piece, IsSource}
use Rattle.liquid_lexer.specs.Styles.{styled}
use Rattle.liquid_syntax.specs.Blanks.{without_blanks}
use Rattle.liquid_syntax.specs.Templates.{tree_of}
use Rattle.liquid_evaluation.specs.Tree.{Nodes}
use Rattle.liquid_language.specs.Styles.{style_of}
use Rattle.liquid_language.specs.declared.block.BlockContext.TheVariants.{Outside}
use Rattle.liquid_language.specs.declared.registry.Language.{Language}
use Rattle.liquid_syntax.specs.declared.template.Template.{Template}
use Rattle.liquid_lexer.specs.declared.fault.ParseError.{ParseError}
use Rattle.liquid_lexer.specs.declared.fault.ParseError.TheVariants as errors

-- The source is pieces, and they are the nodes, of which blocks nest at most 200 deep.
unfoldable pub IsWrittenTree : Language → Nodes → Text → Type 0
IsWrittenTree l u source = (ps : List Piece) × IsSource (styled (style_of l)) false ps source ×
    AreNodes (IsStatement l) Outside 200 u ps []

-- the nodes without the white space of blocks that write nothing, where the language drops it
abbrev pub kept_nodes : Language → Nodes → Nodes
kept_nodes l u = cond l.drops_blanks (without_blanks u) u

-- the tree is what is written, without what the language drops
unfoldable pub IsTemplate : Language → Nodes → Text → Type 0
IsTemplate l t source = (u : Nodes) × IsWrittenTree l u source × (t ≡ kept_nodes l u)

-- the tree is the source's, and none but it is
abbrev pub IsOnlyTree : Language → Nodes → Text → Type 0
IsOnlyTree l t source = IsTheOne (λ u. IsTemplate l u source) t

abbrev pub HasNoTree : Language → Text → Type 0
HasNoTree l source = (t : Nodes) → IsTemplate l t source → ⊥

-- A template is the only tree of the source. A fault says that the source has none, unless memory
-- ran out.
abbrev pub ParsesTo : Language → Text → Result Template Error → Type 0
ParsesTo l source (Ok t) = IsOnlyTree l (tree_of t) source
ParsesTo l source (Err e) = MatchBool (is_memory e.kind) ⊤ (HasNoTree l source)

-- the kind is one of those of a source; `Memory` is none
abbrev pub IsOfSource : ErrorKind → Type 0
IsOfSource kind = (21 ≤ number_of kind) × (number_of kind ≤ 31)

-- memory ran out, or the kind is one of those of a source
abbrev pub MayRefuse : ErrorKind → Type 0
MayRefuse kind = MatchBool (is_memory kind) ⊤ (IsOfSource kind)

-- the tree is written in the source, and none but it is
abbrev pub IsOnlyWritten : Language → Nodes → Text → Type 0
IsOnlyWritten l u source = IsTheOne (λ v. IsWrittenTree l v source) u

-- as `ParsesTo`, of the reader inside, which drops nothing
abbrev pub ReadsTo : Language → Text → Result Template ParseError → Type 0
ReadsTo l source (Ok t) = IsOnlyWritten l (tree_of t) source
ReadsTo l source (Err errors.Memory) = Unit {0}
ReadsTo l source (Err (errors.Fault f)) = HasNoTree l source
