use Rattle.std.proofs.Common.{◌≡◌, ◌++◌, ◌∙◌, List, refl, sym, subst, IfSome}
use Rattle.std.proofs.lemmas.Result.{err_from_is_err_and}
use Rattle.liquid_files.specs.Files.{Files, IsSet, holds}
use Rattle.liquid_language.specs.Entries.{seen}
use Rattle.liquid_site_round.specs.Settings.{FileSetting}
use Rattle.liquid_site_round.specs.SiteWriting.{BuiltFiles, built_file_view, built_names, list_ahead, list_name, list_setting, placings, removals, site_settings}
use Rattle.liquid_site_round.specs.WrittenNames.{list_text}
use Rattle.liquid_site_round.proofs.Names.{words}
use Rattle.liquid_site_round.proofs.Setting.{after_first, ended_first, none_set, one_set}
use Rattle.liquid_site_round.proofs.writing.write_listed.Goals as goal

pub returns-in_err-built : goal.returns-in_err-built
returns-in_err-built g c =
    none_set _ (site_settings c.args.places.source.now c.args.places.out.now (seen built_file_view c.args.files.now.entries) (words c.args.before.names.now)) _ _ (err_from_is_err_and c.from_residual.result c.from_residual.ensures.1).1

pub returns-in_err-put_ahead : goal.returns-in_err-put_ahead
returns-in_err-put_ahead g c =
    let fs : BuiltFiles = seen built_file_view c.args.files.now.entries in
    let ahead : (Files → List FileSetting) = list_ahead (c.args.places.out.now ++ list_name) fs (words c.args.before.names.now) in
    let gone_now : List FileSetting = removals c.args.places.out.now fs (words c.args.before.names.now) in
    let there : List FileSetting = placings c.args.places.source.now c.args.places.out.now fs in
    let last : List FileSetting = list_setting (c.args.places.out.now ++ list_name) (built_names fs) in
    let r = c.put_ahead.result in
    let was = c.in_err-put_ahead.was in
    ended_first _ _ (λ f. (ahead f ++ gone_now) ++ there) (λ _. last) r _ c.from_residual-in_err-put_ahead.result _ was (err_from_is_err_and c.from_residual-in_err-put_ahead.result c.from_residual-in_err-put_ahead.ensures.1).1
    (ended_first _ _ (λ f. ahead f ++ gone_now) (λ _. there) r _ r _ was was (ended_first _ _ ahead (λ _. gone_now) r _ r _ was was c.put_ahead.ensures))

pub returns-in_err-remove_files : goal.returns-in_err-remove_files
returns-in_err-remove_files g c =
    let fs : BuiltFiles = seen built_file_view c.args.files.now.entries in
    let ahead : (Files → List FileSetting) = list_ahead (c.args.places.out.now ++ list_name) fs (words c.args.before.names.now) in
    let gone_now : List FileSetting = removals c.args.places.out.now fs (words c.args.before.names.now) in
    let there : List FileSetting = placings c.args.places.source.now c.args.places.out.now fs in
    let last : List FileSetting = list_setting (c.args.places.out.now ++ list_name) (built_names fs) in
    let r = c.remove_files.result in
    let was = c.in_err-remove_files.was in
    ended_first _ _ (λ f. (ahead f ++ gone_now) ++ there) (λ _. last) r _ c.from_residual-in_err-remove_files.result _ was (err_from_is_err_and c.from_residual-in_err-remove_files.result c.from_residual-in_err-remove_files.ensures.1).1
    (ended_first _ _ (λ f. ahead f ++ gone_now) (λ _. there) r _ r _ was was (after_first _ _ _ ahead (λ _. gone_now) c.put_ahead.result _ r c.in_ok-put_ahead.was (λ f g p q. refl) c.put_ahead.ensures c.remove_files.ensures))

pub returns-in_err-place_files : goal.returns-in_err-place_files
returns-in_err-place_files g c =
    let fs : BuiltFiles = seen built_file_view c.args.files.now.entries in
    let ahead : (Files → List FileSetting) = list_ahead (c.args.places.out.now ++ list_name) fs (words c.args.before.names.now) in
    let gone_now : List FileSetting = removals c.args.places.out.now fs (words c.args.before.names.now) in
    let there : List FileSetting = placings c.args.places.source.now c.args.places.out.now fs in
    let last : List FileSetting = list_setting (c.args.places.out.now ++ list_name) (built_names fs) in
    let r = c.place_files.result in
    ended_first _ _ (λ f. (ahead f ++ gone_now) ++ there) (λ _. last) r _ c.from_residual-in_err-place_files.result _ c.in_err-place_files.was (err_from_is_err_and c.from_residual-in_err-place_files.result c.from_residual-in_err-place_files.ensures.1).1
    (after_first _ _ _ (λ f. ahead f ++ gone_now) (λ _. there) c.remove_files.result _ r c.in_ok-remove_files.was (λ f g p q. refl)
    (after_first _ _ _ ahead (λ _. gone_now) c.put_ahead.result _ c.remove_files.result c.in_ok-put_ahead.was (λ f g p q. refl) c.put_ahead.ensures c.remove_files.ensures) c.place_files.ensures)

pub returns : goal.returns
returns g c =
    let fs : BuiltFiles = seen built_file_view c.args.files.now.entries in
    let ahead : (Files → List FileSetting) = list_ahead (c.args.places.out.now ++ list_name) fs (words c.args.before.names.now) in
    let gone_now : List FileSetting = removals c.args.places.out.now fs (words c.args.before.names.now) in
    let there : List FileSetting = placings c.args.places.source.now c.args.places.out.now fs in
    let last : List FileSetting = list_setting (c.args.places.out.now ++ list_name) (built_names fs) in
    let text = c.as_str-2.ensures.value ∙ c.in_ok-built.ensures in
    after_first _ _ _ (λ f. (ahead f ++ gone_now) ++ there) (λ _. last) c.place_files.result _ c.write_file.result c.in_ok-place_files.was (λ f g p q. refl)
    (after_first _ _ _ (λ f. ahead f ++ gone_now) (λ _. there) c.remove_files.result _ c.place_files.result c.in_ok-remove_files.was (λ f g p q. refl)
    (after_first _ _ _ ahead (λ _. gone_now) c.put_ahead.result _ c.remove_files.result c.in_ok-put_ahead.was (λ f g p q. refl) c.put_ahead.ensures c.remove_files.ensures) c.place_files.ensures)
    (one_set _ _ (c.args.places.out.now ++ list_name) (λ _. holds (list_text (built_names fs))) c.write_file.result
    (subst (λ t. IfSome (g.D.Disk.files c.place_files.new.disk) (λ f. IsSet (c.args.places.out.now ++ list_name) (holds t) f c.write_file.result (g.D.Disk.files c.write_file.new.disk))) text c.write_file.ensures))
