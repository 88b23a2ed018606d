use Rattle.std.proofs.Common.{◌≡◌, drop}
use Rattle.liquid_jekyll_host_filters.specs.Named.{filter_among}
use Rattle.liquid_jekyll_host_filters.proofs.named.filter_among.Given as goal

abbrev pub invariant-loop-filter : goal.invariant-loop-filter
invariant-loop-filter l = filter_among l.name l.filters ≡ filter_among l.name (drop l.filter-index l.filters)
