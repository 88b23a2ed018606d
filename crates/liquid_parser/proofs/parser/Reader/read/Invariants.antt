use Rattle.std.proofs.Common.{length, ◌≡◌, ◌≤◌, ℕ, List, false}
use denote.Shadow.{shadow}
use denote.Text.{Utf8}
use Rattle.liquid_parser.specs.inside.Building.{IsBuilding}
use Rattle.liquid_parser.specs.OpenBlocks.{Level}
use Rattle.liquid_parser.specs.inside.TemplateReading.{begun_with, body_of, piece_step}
use Rattle.liquid_lexer.specs.SourceReading.{source_at}
use Rattle.liquid_language.specs.Styles.{style_of}
use Rattle.liquid_evaluation.specs.Tree.{Nodes}
use Rattle.liquid_parser.proofs.parser.Reader.read.Given as goal

abbrev pub invariant-pieces : goal.invariant-pieces
invariant-pieces l =
    (n : ℕ) × (ls : List Level) × (cur : Nodes) × (length l.rest ≤ n) × IsBuilding l.self.builder ls cur
    × (source_at (style_of l.language) (body_of l.language) (piece_step l.language) (length l.initial.rest) false begun_with l.initial.rest ≡ source_at (style_of l.language) (body_of l.language) (piece_step l.language) n l.strip_next (ls, cur) l.rest)
    × shadow (Utf8 l.rest)

abbrev pub decreases-pieces : goal.decreases-pieces
decreases-pieces l = length l.rest
