use Rattle.std.proofs.Common.{◌≡◌, ◌++◌, ◌∙◌, option_to_list, refl, sym, ap, append-nil}
use Rattle.std.proofs.lemmas.List.{drop_all}
use Rattle.std.proofs.lemmas.Result.{err_from_is_err_and}
use Rattle.liquid_site.specs.SiteViews.{contents_of, language_of}
use Rattle.liquid_site.proofs.Disks.{no_more, none_if_err}
use Rattle.liquid_site.proofs.Takes.{taken_first, taken_on, all_taken, refusals_first, refusals_on, all_refusals}
use Rattle.liquid_site.proofs.rounds.take_all.Goals.{in-Some+in_ok-push, in_default}
use Rattle.liquid_site.proofs.rounds.take_all.Goals as goal

pub loop-changed-init : goal.loop-changed-init
loop-changed-init g c =
    record {
      language = refl;
      taken = taken_first _ (language_of c.args.site.now) c.args.folder.now c.args.changes.now (contents_of c.args.site.now);
      reported = refusals_first _ (language_of c.args.site.now) c.args.folder.now c.args.changes.now c.new-refusals.result.items c.new-refusals.ensures.items;
    }

pub loop-changed-preserved : goal.loop-changed-preserved
loop-changed-preserved g c =
    let before = c.loop-changed.refusals.items in
    let refusal = c.in_ok-refusal.field-0 in
    let joined : c.match-branch-2.refusals.items ≡ before ++ option_to_list refusal =
    elim c.match-branch-2.branch [ in-Some+in_ok-push w ↦ ap (λ v. v.items) w.refusals-is ∙ w.in_ok-push.ensures.items ∙ ap (λ r. before ++ option_to_list r) (sym w.in-Some.is) | in_default w ↦ ap (λ v. v.items) w.refusals-is ∙ sym (append-nil before) ∙ ap (λ r. before ++ option_to_list r) (sym w.in_default.is) ] in
    record {
      language = c.in_ok-refusal.ensures.language ∙ c.loop-changed.invariant.language;
      taken = taken_on _ (language_of c.args.site.now) (language_of c.loop-changed.site) c.args.folder.now c.args.changes.now c.loop-changed.changed-index c.changed-item.result (contents_of c.args.site.now) (contents_of c.loop-changed.site)
          (contents_of c.take.new.site) c.loop-changed.invariant.language c.changed-item.is c.loop-changed-test.true c.loop-changed.invariant.taken c.in_ok-refusal.ensures.taken;
      reported = refusals_on _ (language_of c.args.site.now) (language_of c.loop-changed.site) c.args.folder.now c.args.changes.now c.loop-changed.changed-index c.changed-item.result refusal before c.match-branch-2.refusals.items c.loop-changed.invariant.language
          c.changed-item.is c.loop-changed-test.true c.loop-changed.invariant.reported c.in_ok-refusal.ensures.refused c.in_ok-refusal.ensures.path joined;
    }

pub returns-in_err-refusal-clause-taken : goal.returns-in_err-refusal-clause-taken
returns-in_err-refusal-clause-taken g c = no_more _ _ _ _ (err_from_is_err_and c.from_residual.result c.from_residual.ensures.1).1

pub returns-in_err-refusal-clause-refusals : goal.returns-in_err-refusal-clause-refusals
returns-in_err-refusal-clause-refusals g c = none_if_err _ _ _ _ (err_from_is_err_and c.from_residual.result c.from_residual.ensures.1).1

pub returns-in_err-push-clause-taken : goal.returns-in_err-push-clause-taken
returns-in_err-push-clause-taken g c = no_more _ _ _ _ (err_from_is_err_and c.from_residual-in_err-push.result c.from_residual-in_err-push.ensures.1).1

pub returns-in_err-push-clause-refusals : goal.returns-in_err-push-clause-refusals
returns-in_err-push-clause-refusals g c = none_if_err _ _ _ _ (err_from_is_err_and c.from_residual-in_err-push.result c.from_residual-in_err-push.ensures.1).1

pub returns-clause-taken : goal.returns-clause-taken
returns-clause-taken g c =
    all_taken _ (language_of c.args.site.now) c.args.folder.now c.args.changes.now c.loop-changed.changed-index (contents_of c.args.site.now) (contents_of c.loop-changed.site) (drop_all c.loop-changed.changed-index c.args.changes.now c.loop-changed-test.false) c.loop-changed.invariant.taken

pub returns-clause-refusals : goal.returns-clause-refusals
returns-clause-refusals g c =
    all_refusals _ (language_of c.args.site.now) c.args.folder.now c.args.changes.now c.loop-changed.changed-index c.loop-changed.refusals.items (drop_all c.loop-changed.changed-index c.args.changes.now c.loop-changed-test.false) c.loop-changed.invariant.reported
