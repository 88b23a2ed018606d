use Rattle.std.proofs.Common.{◌≡◌, option_map, string_bytes, ap, ◌∙◌}
use Rattle.liquid_language.specs.Entries.{seen}
use Rattle.liquid_language.proofs.Inserted.{found_reference}
use Rattle.liquid_site_build.specs.OutcomeViews.{file_made_view, output_view}
use Rattle.liquid_site_build.specs.Written.{unless_taken}
use Rattle.liquid_site_build.proofs.place.unless_owned.Goals as goal

pub returns : goal.returns
returns c =
    let o = output_view c.args.output in
    let held = found_reference string_bytes c.get.result o.file c.args.owners.now.entries c.get.ensures.value in
    ap (λ made. record o { made = made }) (c.in_ok-made.ensures o.file ∙ ap (λ owner. unless_taken o.source owner o.made) held)
