use Rattle.std.proofs.Common.{◌∙◌, ◌++◌, Ok, refl, sym}
use Rattle.liquid_files.specs.Files.{gone}
use Rattle.liquid_model.specs.Maps.{listed}
use Rattle.liquid_language.specs.Entries.{seen}
use Rattle.liquid_site_round.specs.SiteWriting.{built_file_view, removal}
use Rattle.liquid_site_round.specs.declared.writing.SiteStop.{SiteStop}
use Rattle.liquid_site_round.proofs.Setting.{removes_none, removes_one, set_none, set_one}
use Rattle.liquid_site_round.proofs.place.remove_unbuilt.Goals as goal

pub returns-then-is_some : goal.returns-then-is_some
returns-then-is_some g c =
    let out = c.args.out.now in
    let n = c.args.name.now.now in
    set_none {E = SiteStop} _ (removal out n (listed (seen built_file_view c.args.files.now.entries) n)) (Ok tt) tt (removes_none c.get.result out n c.args.files.now.entries c.get.ensures.value (sym c.is_some.ensures ∙ c.if-is_some.true)) refl

pub returns : goal.returns
returns g c =
    let out = c.args.out.now in
    let n = c.args.name.now.now in
    set_one _ _ (removal out n (listed (seen built_file_view c.args.files.now.entries) n)) (out ++ n) (λ _. gone) c.remove_file.result (removes_one c.get.result out n c.args.files.now.entries c.get.ensures.value (sym c.is_some.ensures ∙ c.if-is_some.false)) c.remove_file.ensures
