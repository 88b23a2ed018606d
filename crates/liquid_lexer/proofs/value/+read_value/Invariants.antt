use Rattle.std.proofs.Common.{length, ◌+◌, ◌*◌, ◌≡◌, ◌≤◌, ℕ, map}
use denote.Shadow.{shadow}
use denote.Text.{Utf8}
use Rattle.liquid_core.specs.ExpressionView.{expression_view}
use Rattle.liquid_lexer.specs.ValueReading.{steps_at, inner_of}
use Rattle.liquid_lexer.proofs.StepTurns.{with_front}
use Rattle.liquid_lexer.proofs.value.+read_value.Given as goal

abbrev pub decreases-read_value : goal.decreases-read_value
decreases-read_value l = 4 * l.depth + 3

abbrev pub decreases-read_named : goal.decreases-read_named
decreases-read_named l = 4 * l.depth + 2

abbrev pub decreases-read_steps : goal.decreases-read_steps
decreases-read_steps l = 4 * l.depth + 1

abbrev pub decreases-read_step : goal.decreases-read_step
decreases-read_step l = 4 * l.depth

abbrev pub invariant-read_steps-steps : goal.invariant-read_steps-steps
invariant-read_steps-steps l =
    (n : ℕ) × (length l.rest ≤ n)
    × (steps_at (inner_of l.depth) (length l.initial.rest) l.initial.rest ≡ with_front (map expression_view l.steps.items) (steps_at (inner_of l.depth) n l.rest)) × shadow (Utf8 l.rest)

abbrev pub decreases-read_steps-steps : goal.decreases-read_steps-steps
decreases-read_steps-steps l = length l.rest
