use Rattle.std.proofs.Common.{◌≡◌, ℕ, List, ◌++◌, drop}
use Rattle.std.specs.Fmt.{HasWritten, IsPlainFormatter}
use Rattle.liquid_core.specs.ExpressionView.{steps_view}
use Rattle.liquid_core.specs.Spelled.{spelled_steps}
use Rattle.liquid_core.proofs.spelled.+write_steps.Given as goal

-- what was written and what is left make the whole
abbrev pub invariant-write_steps-loop-index : goal.invariant-write_steps-loop-index
invariant-write_steps-loop-index g l =
    IsPlainFormatter l.initial.f → (done : List ℕ) × HasWritten g.W.Write.write_str_gives l.initial.f done l.f
    × (done ++ spelled_steps (steps_view (drop l.index-index l.indexes)) ≡ spelled_steps (steps_view l.indexes))
