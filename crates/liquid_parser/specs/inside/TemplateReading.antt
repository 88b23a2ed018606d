-- The tree of a source, as it is read: one piece after another, by a machine of open blocks.
use Rattle.std.specs.Prelude.{◌≡◌, [], length, Bool, false, Option, Some, Result, Ok, Err}
use Rattle.std.specs.Borrow.{Bor}
use Rattle.std.specs.Option.{option_and_then}
use Rattle.liquid_model.specs.Texts.{Text}
use Rattle.liquid_lexer.specs.Pieces.{Piece}
use Rattle.liquid_lexer.specs.Readers.{Fails}
use Rattle.liquid_lexer.specs.SourceReading.{Markup, body_at, source_at, wanted_body}
use Rattle.liquid_lexer.specs.declared.fault.ParseError.{ParseError}
use Rattle.liquid_lexer.specs.declared.piece.Body.{Body}
use Rattle.liquid_parser.specs.Classification.{reads}
use Rattle.liquid_parser.specs.OpenBlocks.{State, context_of, statement_step, at_end}
use Rattle.liquid_parser.specs.declared.build.Builder.{Builder}
use Rattle.liquid_parser.specs.inside.Building.{IsBuilding}
use Rattle.liquid_language.specs.Styles.{style_of}
use Rattle.liquid_language.specs.Roles.{body_after}
use Rattle.liquid_language.specs.declared.registry.Language.{Language}
use Rattle.liquid_evaluation.specs.Tree.{Nodes, no_nodes}

-- the verbatim body after a tag of the name, where one is to be
abbrev pub body_of : Language → State → Text → Option Body
body_of l s w = body_after l (context_of s.0) w

-- the next piece
abbrev pub piece_step : Language → State → Piece → Option State
piece_step l s p = statement_step (reads l (context_of s.0) p) s.0 s.1

abbrev pub begun_with : State
begun_with = ([], no_nodes)

unfoldable pub template_at : Language → Text → Option Nodes
template_at l source =
    option_and_then (λ s. at_end s.0 s.1) (source_at (style_of l) (body_of l)
    (piece_step l) (length source) false begun_with source)

-- what is found after an opener, with the body after it where one is to be
abbrev pub whole_at : Language → State → Markup × Text → Option (Markup × Text)
whole_at l s m = body_at (wanted_body (body_of l s) m.0.piece) m.0 m.1

-- The builder went on to the state after the piece, memory aside, and the answer says whether the
-- closer strips what is left, and what that is. No fault is answered where the piece is taken.
abbrev pub AddsPiece : Language → Markup × Text → State → Builder →
    Result (Bool × Bor Text) ParseError → Type 0
AddsPiece l m s b (Ok x) =
    (v : Markup × Text) × (whole_at l s m ≡ Some v) × (x.0 ≡ v.0.after) × (x.1.now ≡ v.1) ×
    (next : State) × (piece_step l s v.0.piece ≡ Some next) × IsBuilding b next.0 next.1
AddsPiece l m s b (Err e) =
    Fails e (option_and_then (λ v. piece_step l s v.0.piece) (whole_at l s m))
