use Rattle.std.proofs.Common.{◌≡◌, ◌++◌, drop}
use Rattle.liquid_filters.specs.Urls.{plus_to_space}
use Rattle.liquid_filters.proofs.stdlib.filters.url.spaced.Given as goal

abbrev pub invariant-loop-byte : goal.invariant-loop-byte
invariant-loop-byte l = plus_to_space l.text ≡ l.bytes.items ++ plus_to_space (drop l.byte-index l.text)
