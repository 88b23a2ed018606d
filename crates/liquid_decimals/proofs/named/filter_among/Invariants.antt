use Rattle.std.proofs.Common.{◌≡◌, drop}
use Rattle.liquid_decimals.specs.Named.{decimal_filter_among}
use Rattle.liquid_decimals.proofs.named.filter_among.Given as goal

abbrev pub invariant-loop-filter : goal.invariant-loop-filter
invariant-loop-filter l = decimal_filter_among l.name l.filters ≡ decimal_filter_among l.name (drop l.filter-index l.filters)
