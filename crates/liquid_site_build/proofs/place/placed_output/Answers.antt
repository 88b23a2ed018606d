use Rattle.std.proofs.Common.{◌≡◌, Err, cond, string_bytes, sym, ap, ◌∙◌, subst}
use Rattle.liquid_language.specs.Entries.{seen}
use Rattle.liquid_model.specs.Answer.{IsValueOrMemory}
use Rattle.liquid_model.specs.Maps.{listed}
use Rattle.liquid_site_build.specs.Built.{leads_out}
use Rattle.liquid_site_build.specs.OutcomeViews.{output_view}
use Rattle.liquid_site_build.specs.Written.{unless_owned}
use Rattle.liquid_site_build.proofs.place.placed_output.Goals as goal

pub returns-then-is_written_name : goal.returns-then-is_written_name
returns-then-is_written_name c =
    let o = output_view c.args.output in
    let owned = unless_owned (listed (seen string_bytes c.args.owners.now.entries)) o in
    subst (λ b. IsValueOrMemory output_view c.unless_owned.result (cond b owned (record o { made = Err (leads_out o.file) }))) (sym c.if-is_written_name.true ∙ c.is_written_name.ensures) c.unless_owned.ensures

pub returns : goal.returns
returns c =
    let o = output_view c.args.output in
    let owned = unless_owned (listed (seen string_bytes c.args.owners.now.entries)) o in
    ap (λ b. cond b owned (record o { made = Err (leads_out o.file) })) (sym c.if-is_written_name.false ∙ c.is_written_name.ensures)
