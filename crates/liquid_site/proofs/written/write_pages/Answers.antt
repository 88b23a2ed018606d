use Rattle.std.proofs.Common.{◌≡◌, cond, string_bytes, sym, ap, ◌∙◌, rules}
use Rattle.std.proofs.lemmas.Result.{err_from_is_err_and}
use Rattle.liquid_model.specs.Texts.{Text}
use Rattle.liquid_language.specs.Entries.{seen}
use Rattle.liquid_engine.specs.Pages.{Shown, page_view}
use Rattle.liquid_site.specs.Parts.{pages_in}
use Rattle.liquid_site.specs.Steps.{saturated_sum}
use Rattle.liquid_site.proofs.Disks.{started, moved_on, ended_at, stopped_at}
use Rattle.liquid_site.proofs.written.write_pages.Goals as goal

pub loop-name-init : goal.loop-name-init
loop-name-init g c =
    let all : c.into_iter-name-iterator.result ≡ c.args.pages.now.entries = search rules in
    started _ c.args.out.now (pages_in c.args.pages.now) _ (ap (seen page_view) all)

pub returns-in_err-write_page-clause-unwritten : goal.returns-in_err-write_page-clause-unwritten
returns-in_err-write_page-clause-unwritten g c =
    let p : Text × Shown = (string_bytes c.in-Some.name.now, page_view c.in-Some.page.now) in
    let rest = seen page_view c.next.new.self in
    let e = err_from_is_err_and c.from_residual.result c.from_residual.ensures.1 in
    rw (e.1, e.2) (stopped_at _ _ _ c.args.out.now (pages_in c.args.pages.now) _ rest p c.as_str.result.now c.as_str-in-loop-name.result.now c.loop-name.written c.in_err-write_page.field-0.0 (ap (seen page_view) c.in-Some.ensures.steps) c.as_str.ensures.value
    c.as_str-in-loop-name.ensures.value c.loop-name.invariant c.in_err-write_page.ensures.kept c.in_err-write_page.ensures.unwritten c.in_err-write_page.ensures.message)

pub returns-in_err-write_page-clause-others : goal.returns-in_err-write_page-clause-others
returns-in_err-write_page-clause-others g c =
    let p : Text × Shown = (string_bytes c.in-Some.name.now, page_view c.in-Some.page.now) in
    let rest = seen page_view c.next.new.self in
    ended_at _ _ _ c.args.out.now (pages_in c.args.pages.now) _ rest p c.loop-name.written (ap (seen page_view) c.in-Some.ensures.steps) c.loop-name.invariant c.in_err-write_page.ensures.kept

pub loop-name-preserved-then-branch : goal.loop-name-preserved-then-branch
loop-name-preserved-then-branch g c =
    let p : Text × Shown = (string_bytes c.in-Some.name.now, page_view c.in-Some.page.now) in
    let rest = seen page_view c.next.new.self in
    moved_on _ _ _ c.args.out.now (pages_in c.args.pages.now) _ rest p c.as_str.result.now c.as_str-in-loop-name.result.now c.loop-name.written c.saturating_add-written.result c.in_ok-write_page.field-0
    (ap (seen page_view) c.in-Some.ensures.steps) c.as_str.ensures.value c.as_str-in-loop-name.ensures.value c.loop-name.invariant c.in_ok-write_page.ensures.written c.in_ok-write_page.ensures.needed
    (c.saturating_add-written.ensures ∙ ap (λ b. cond b (saturated_sum c.loop-name.written 1) c.loop-name.written) (sym c.if-branch.true))

pub loop-name-preserved : goal.loop-name-preserved
loop-name-preserved g c =
    let p : Text × Shown = (string_bytes c.in-Some.name.now, page_view c.in-Some.page.now) in
    let rest = seen page_view c.next.new.self in
    moved_on _ _ _ c.args.out.now (pages_in c.args.pages.now) _ rest p c.as_str.result.now c.as_str-in-loop-name.result.now c.loop-name.written c.loop-name.written c.in_ok-write_page.field-0
    (ap (seen page_view) c.in-Some.ensures.steps) c.as_str.ensures.value c.as_str-in-loop-name.ensures.value c.loop-name.invariant c.in_ok-write_page.ensures.written c.in_ok-write_page.ensures.needed
    (ap (λ b. cond b (saturated_sum c.loop-name.written 1) c.loop-name.written) (sym c.if-branch.false))
