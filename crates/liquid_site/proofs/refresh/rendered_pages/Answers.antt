use Rattle.std.proofs.Common.{◌≡◌, ◌∷◌, [], ◌++◌, true, false, String, Global, string_bytes, rules, refl, sym, ap, subst, ◌∙◌}
use Rattle.std.proofs.lemmas.List.{map-append}
use Rattle.liquid_core.specs.Held.{held}
use Rattle.liquid_language.specs.Entries.{seen}
use Rattle.liquid_syntax.specs.Templates.{tree_of, partials_of}
use Rattle.liquid_syntax.specs.declared.template.Template.{Template}
use Rattle.liquid_engine.specs.Pages.{Shown, page_by}
use Rattle.liquid_model.specs.Texts.{Text}
use Rattle.liquid_site.specs.Contents.{all_pages}
use Rattle.liquid_site.specs.Parts.{trees_in}
use Rattle.liquid_site.specs.ShownPages.{AreShown}
use Rattle.liquid_site.specs.inside.Fresh.{selects, selected, named_page, listed_pages}
use Rattle.liquid_site.proofs.Placing.{taken, passed}
use Rattle.liquid_site.proofs.Shown.{shown_append}
use Rattle.liquid_site.proofs.refresh.rendered_pages.Goals as goal

pub loop-page-preserved-in-Continue-branch-2 : goal.loop-page-preserved-in-Continue-branch-2
loop-page-preserved-in-Continue-branch-2 g c =
    let context = c.args.context.now in
    let show = page_by context.setting (partials_of context.partials.now) (held context.«data».now) in
    let test = selects c.args.selection in
    let t = tree_of c.in-Some.template.now in
    let e : String Global × Template = (c.in-Some.page.now, c.in-Some.template.now) in
    let w : Text × Shown = (string_bytes e.0, show t) in
    let fresh = c.in_ok-fresh.fresh in
    let left = c.next.new.self in
    let before = c.loop-page.pages.items in
    let done = c.loop-page.invariant.0 in
    let all = all_pages show (selected test (trees_in c.args.templates.now)) in
    let hit : test t ≡ true = sym c.has.ensures ∙ c.if-has.true in
    let named : string_bytes e.0 ≡ string_bytes fresh.0 = sym (c.in_ok-fresh.ensures.name ∙ c.as_str.ensures.value) in
    let items : listed_pages c.push.new.self.items ≡ listed_pages before ++ named_page fresh ∷ [] = ap listed_pages c.in_ok-push.ensures.items ∙ map-append named_page before (fresh ∷ []) in (
      done ++ w ∷ [],
      subst (λ ps. AreShown (g.R.Rendering.shows c.args.context.now.rendering.now) (done ++ w ∷ []) ps) (sym items) (shown_append (g.R.Rendering.shows c.args.context.now.rendering.now) done (listed_pages before) (w ∷ []) (named_page fresh ∷ []) c.loop-page.invariant.1 (named, c.in_ok-fresh.ensures.page, tt)),
      taken test show done all e left w hit refl (ap (λ es. done ++ all_pages show (selected test (seen tree_of es))) (sym c.in-Some.ensures.steps) ∙ c.loop-page.invariant.2),
    )

pub loop-page-preserved : goal.loop-page-preserved
loop-page-preserved g c =
    let context = c.args.context.now in
    let show = page_by context.setting (partials_of context.partials.now) (held context.«data».now) in
    let test = selects c.args.selection in
    let t = tree_of c.in-Some.template.now in
    let e : String Global × Template = (c.in-Some.page.now, c.in-Some.template.now) in
    let done = c.loop-page.invariant.0 in
    let all = all_pages show (selected test (trees_in c.args.templates.now)) in
    let miss : test t ≡ false = sym c.has.ensures ∙ c.if-has.false in
    (done, c.loop-page.invariant.1, passed test show done all e c.next.new.self miss (ap (λ es. done ++ all_pages show (selected test (seen tree_of es))) (sym c.in-Some.ensures.steps) ∙ c.loop-page.invariant.2))

pub loop-page-init : goal.loop-page-init
loop-page-init g c =
    let context = c.args.context.now in
    let show = page_by context.setting (partials_of context.partials.now) (held context.«data».now) in
    let test = selects c.args.selection in
    let all : c.into_iter-page-iterator.result ≡ c.args.templates.now.entries = search rules in (
      [],
      subst (λ items. AreShown (g.R.Rendering.shows c.args.context.now.rendering.now) [] (listed_pages items)) (sym c.new-pages.ensures.items) tt,
      ap (λ es. all_pages show (selected test (seen tree_of es))) all,
    )
