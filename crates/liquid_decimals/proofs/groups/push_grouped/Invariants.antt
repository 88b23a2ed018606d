use Rattle.std.proofs.Common.{◌≡◌, ◌++◌, drop, string_bytes}
use Rattle.liquid_decimals.specs.Written.{digit_groups}
use Rattle.liquid_decimals.proofs.groups.push_grouped.Given as goal

abbrev pub invariant-loop-place : goal.invariant-loop-place
invariant-loop-place l =
    string_bytes l.initial.out ++ digit_groups l.separator l.digits
    ≡ string_bytes l.out ++ digit_groups l.separator (drop l.place l.digits)
