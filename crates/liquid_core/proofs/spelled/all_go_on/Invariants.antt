use Rattle.std.proofs.Common.{◌≡◌, true, take}
use Rattle.std.specs.List.{list_all}
use Rattle.liquid_core.specs.Spelled.{goes_on_in_name}
use Rattle.liquid_core.proofs.spelled.all_go_on.Given as goal

abbrev pub invariant-loop-byte : goal.invariant-loop-byte
invariant-loop-byte l = list_all goes_on_in_name (take l.byte-index l.bytes) ≡ true
