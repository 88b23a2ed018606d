use Rattle.std.proofs.Common.{◌≡◌, drop}
use Rattle.liquid_model.specs.Maps.{listed}
use Rattle.liquid_language.specs.Registered.{registered_in}
use Rattle.liquid_filter_sets.specs.Languages.{with_converters}
use Rattle.liquid_filter_sets.proofs.languages.register_converters.Given as goal

-- what is left makes the whole
abbrev pub invariant-loop-converter : goal.invariant-loop-converter
invariant-loop-converter l = with_converters (listed (registered_in l.filters)) (drop l.converter-index l.converters) ≡ with_converters (listed (registered_in l.initial.filters)) l.converters
