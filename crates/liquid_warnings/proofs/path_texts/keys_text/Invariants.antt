use Rattle.std.proofs.Common.{◌≡◌, [], drop, string_bytes}
use Rattle.liquid_warnings.specs.Paths.{with_step_keys}
use Rattle.liquid_warnings.proofs.path_texts.keys_text.Given as goal

-- the keys that are left come after what is written
abbrev pub invariant-loop-step : goal.invariant-loop-step
invariant-loop-step l =
    with_step_keys [] l.steps ≡ with_step_keys (string_bytes l.text) (drop l.step-index l.steps)
