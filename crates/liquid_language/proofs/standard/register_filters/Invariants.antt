use Rattle.std.proofs.Common.{◌≡◌, drop}
use Rattle.liquid_model.specs.Maps.{listed}
use Rattle.liquid_language.specs.Registered.{registered_in}
use Rattle.liquid_language.specs.Standard.{with_filters}
use Rattle.liquid_language.proofs.standard.register_filters.Given as goal

-- what is left makes the whole
abbrev pub invariant-loop-kind : goal.invariant-loop-kind
invariant-loop-kind l = with_filters (listed (registered_in l.filters)) (drop l.kind-index l.kinds) ≡ with_filters (listed (registered_in l.initial.filters)) l.kinds
