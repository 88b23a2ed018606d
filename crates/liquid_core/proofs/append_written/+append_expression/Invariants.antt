use Rattle.std.proofs.Common.{string_bytes, drop}
use Rattle.liquid_model.proofs.Appending.{Going}
use Rattle.liquid_core.specs.ExpressionView.{steps_view}
use Rattle.liquid_core.specs.Written.{written_steps}
use Rattle.liquid_core.proofs.append_written.+append_expression.Given as goal

-- a part of the text stands after what was there, and the steps that are left have the rest of it
abbrev pub invariant-append_steps-loop-index : goal.invariant-append_steps-loop-index
invariant-append_steps-loop-index l =
    Going (string_bytes l.initial.out) (string_bytes l.out) (written_steps (steps_view l.index-items)) (written_steps (steps_view (drop l.index-index l.index-items)))
