use Rattle.std.proofs.Common.{◌≡◌, [], None, map, string_bytes, ap}
use Rattle.liquid_language.specs.Entries.{seen}
use Rattle.liquid_model.specs.Maps.{listed}
use Rattle.liquid_site_build.specs.OutcomeViews.{output_view}
use Rattle.liquid_site_build.specs.Written.{first_written}
use Rattle.liquid_site_build.proofs.place.owners.Goals as goal

pub loop-output-init : goal.loop-output-init
unfolding listed
loop-output-init c = λ file.
    ap (λ es. first_written (listed (seen string_bytes es) file) (map output_view c.deref-output-items.result.now) file) c.new-owners.ensures.empty
