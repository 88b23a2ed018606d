use Rattle.std.proofs.Common.{◌≡◌, drop, map, string_bytes}
use Rattle.liquid_language.specs.Entries.{seen}
use Rattle.liquid_model.specs.Maps.{listed}
use Rattle.liquid_model.specs.Texts.{Text}
use Rattle.liquid_site_build.specs.OutcomeViews.{output_view}
use Rattle.liquid_site_build.specs.Written.{first_written, owner}
use Rattle.liquid_site_build.proofs.place.owners.Given as goal

abbrev pub invariant-loop-output : goal.invariant-loop-output
invariant-loop-output l =
    (file : Text) → first_written (listed (seen string_bytes l.owners.entries) file) (map output_view (drop l.output-index l.output-items)) file ≡ owner (map output_view l.output-items) file
