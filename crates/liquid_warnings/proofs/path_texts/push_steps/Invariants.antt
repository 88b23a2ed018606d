use Rattle.std.proofs.Common.{◌≡◌, ◌++◌, drop, string_bytes}
use Rattle.liquid_warnings.specs.Paths.{steps_text}
use Rattle.liquid_warnings.proofs.path_texts.push_steps.Given as goal

-- what is written and the steps that are left are all
abbrev pub invariant-loop-step : goal.invariant-loop-step
invariant-loop-step l = string_bytes l.fn.text ++ steps_text l.steps
    ≡ string_bytes l.text ++ steps_text (drop l.step-index l.steps)
