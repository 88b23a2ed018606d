use Rattle.std.proofs.Common.{◌≡◌, option_map, string_bytes, sym, ap, ◌∙◌}
use Rattle.std.specs.Option.{option_copied}
use Rattle.liquid_language.specs.Entries.{seen}
use Rattle.liquid_language.proofs.Inserted.{found_reference}
use Rattle.liquid_model.specs.Maps.{listed}
use Rattle.liquid_site_build.specs.OutcomeViews.{output_view}
use Rattle.liquid_site_build.specs.Written.{is_first}
use Rattle.liquid_site_build.proofs.Owners.{on_ok, owner_kept, owner_taken}
use Rattle.liquid_site_build.proofs.place.add_owner.Goals as goal

pub returns-then-is_first-clause-owners : goal.returns-then-is_first-clause-owners
returns-then-is_first-clause-owners c = λ file.
    let o = output_view c.args.output.now in
    let m = listed (seen string_bytes c.args.owners.now.entries) in
    let held = found_reference string_bytes c.get.result o.file c.args.owners.now.entries c.get.ensures.value in
    let first = ap (is_first o.source) (sym held) ∙ sym c.is_first.ensures ∙ c.if-is_first.true in
    on_ok c.put_owner.result (λ put. ap (λ n. n file) put ∙ owner_taken m o file first) c.put_owner.ensures.owners

pub returns-clause-owners : goal.returns-clause-owners
returns-clause-owners c = λ file.
    let o = output_view c.args.output.now in
    let m = listed (seen string_bytes c.args.owners.now.entries) in
    let held = found_reference string_bytes c.get.result o.file c.args.owners.now.entries c.get.ensures.value in
    let first = ap (is_first o.source) (sym held) ∙ sym c.is_first.ensures ∙ c.if-is_first.false in
    owner_kept m o file first
