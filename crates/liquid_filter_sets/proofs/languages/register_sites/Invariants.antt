use Rattle.std.proofs.Common.{◌≡◌, drop}
use Rattle.liquid_model.specs.Maps.{listed}
use Rattle.liquid_language.specs.Registered.{registered_in}
use Rattle.liquid_filter_sets.specs.Languages.{with_sites}
use Rattle.liquid_filter_sets.proofs.languages.register_sites.Given as goal

-- what is left makes the whole
abbrev pub invariant-loop-site : goal.invariant-loop-site
invariant-loop-site l = with_sites (listed (registered_in l.filters)) (drop l.site-index l.sites) ≡ with_sites (listed (registered_in l.initial.filters)) l.sites
