use Rattle.std.proofs.Common.{◌≡◌, drop, None}
use Rattle.liquid_warnings.specs.Paths.{list_from}
use Rattle.liquid_warnings.proofs.path_texts.list_before.Given as goal

abbrev pub invariant-loop-place : goal.invariant-loop-place
invariant-loop-place l =
    list_from 0 None l.steps ≡ list_from l.place l.found (drop l.place l.steps)
