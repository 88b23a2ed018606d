use Rattle.std.proofs.Common.{◌≡◌, ◌<◌, ◌∙◌, ◌++◌, ◌∷◌, [], length, map, Some, None, ap, sym, rules, arith}
use Rattle.std.proofs.lemmas.Bool.Decides.{nat_tests}
use Rattle.std.proofs.lemmas.List.{map-append}
use Rattle.liquid_model.specs.View.{view}
use Rattle.liquid_filters.specs.Path.{path_step}
use Rattle.liquid_filters.specs.inside.PathView.{step_view}
use Rattle.liquid_filters.proofs.Paths.{begin, turned, ended, over, step_shrinks}
use Rattle.liquid_filters.proofs.jekyll.array.path.read_steps.Goals as goal

pub steps-init : goal.steps-init
steps-init c = (c.utf8.text, begin _ _)

pub returns-in_default : goal.returns-in_default
returns-in_default c =
    let some : 0 < length c.steps.rest.now = grind (arith, nat_tests, c.is_empty.ensures, c.steps-test.true) in
    let none : path_step c.steps.rest.now ≡ None = sym c.in_ok-step.ensures ∙ ap step_view c.in_default.is in
    sym (ended _ _ c.steps.rest.now some none c.steps.invariant.1)

pub steps-smaller : goal.steps-smaller
steps-smaller c =
    let step : path_step c.steps.rest.now ≡ Some (view c.in-Some.step, c.in-Some.after.now) = sym c.in_ok-step.ensures ∙ ap step_view c.in-Some.is in
    step_shrinks c.steps.rest.now _ step

pub steps-preserved : goal.steps-preserved
steps-preserved c =
    let some : 0 < length c.steps.rest.now = grind (arith, nat_tests, c.is_empty.ensures, c.steps-test.true) in
    let step : path_step c.steps.rest.now ≡ Some (view c.in-Some.step, c.in-Some.after.now) = sym c.in_ok-step.ensures ∙ ap step_view c.in-Some.is in
    let pushed : map view c.push.new.self.items ≡ map view c.steps.steps.items ++ view c.in-Some.step ∷ [] =
    ap (map view) c.in_ok-push.ensures.items ∙ map-append view c.steps.steps.items (c.in-Some.step ∷ []) in
    (search rules, turned _ _ _ c.steps.rest.now (view c.in-Some.step, c.in-Some.after.now) pushed some step c.steps.invariant.1)

pub returns : goal.returns
returns c =
    let none : length c.steps.rest.now ≡ 0 = grind (arith, nat_tests, c.is_empty.ensures, c.steps-test.false) in
    sym (over _ _ c.steps.rest.now none c.steps.invariant.1)
