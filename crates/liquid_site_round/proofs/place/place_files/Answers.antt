use Rattle.std.proofs.Common.{◌≡◌, ◌∷◌, [], List, ap, rules, string_bytes}
use Rattle.std.proofs.lemmas.Result.{err_from_is_err_and}
use Rattle.liquid_language.specs.Entries.{seen}
use Rattle.liquid_site_round.specs.Settings.{FileSetting}
use Rattle.liquid_site_round.specs.SiteWriting.{built_file_view, placing, placings}
use Rattle.liquid_site_round.proofs.Setting.{all_done, ended, one_placed, started, went_on}
use Rattle.liquid_site_round.proofs.place.place_files.Goals as goal

pub loop-name-init : goal.loop-name-init
loop-name-init g c =
    let all : c.into_iter-name-iterator.result ≡ c.args.files.now.entries = search rules in
    started _ _ _ (ap (λ es. placings c.args.places.source.now c.args.places.out.now (seen built_file_view es)) all)

pub loop-name-preserved : goal.loop-name-preserved
loop-name-preserved g c =
    let source = c.args.places.source.now in
    let out = c.args.places.out.now in
    let rest = placings source out (seen built_file_view c.next.new.self) in
    let one : List FileSetting = placing source out (string_bytes c.in-Some.name.now, built_file_view c.in-Some.file.now) ∷ [] in
    went_on _ _ _ (placings source out (seen built_file_view c.args.files.now.entries)) _ rest one c.place_file.result _ (ap (λ es. placings source out (seen built_file_view es)) c.in-Some.ensures.steps) c.in_ok-place_file.was c.loop-name.invariant
    (one_placed _ _ source out (string_bytes c.in-Some.name.now) c.as_str.result.now (built_file_view c.in-Some.file.now) c.place_file.result c.as_str.ensures.value c.place_file.ensures)

pub returns-in_err-place_file : goal.returns-in_err-place_file
returns-in_err-place_file g c =
    let source = c.args.places.source.now in
    let out = c.args.places.out.now in
    let rest = placings source out (seen built_file_view c.next.new.self) in
    let one : List FileSetting = placing source out (string_bytes c.in-Some.name.now, built_file_view c.in-Some.file.now) ∷ [] in
    ended _ _ _ (placings source out (seen built_file_view c.args.files.now.entries)) _ rest one c.place_file.result _ c.from_residual.result _ (ap (λ es. placings source out (seen built_file_view es)) c.in-Some.ensures.steps) c.in_err-place_file.was
    (err_from_is_err_and c.from_residual.result c.from_residual.ensures.1).1 c.loop-name.invariant
    (one_placed _ _ source out (string_bytes c.in-Some.name.now) c.as_str.result.now (built_file_view c.in-Some.file.now) c.place_file.result c.as_str.ensures.value c.place_file.ensures)
