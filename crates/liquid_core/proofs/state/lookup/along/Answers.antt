use Rattle.std.proofs.Common.{◌≡◌, ◌+◌, ◌∷◌, Some, map, drop, arith, sym, ap, ◌∙◌}
use Rattle.std.proofs.lemmas.Bool.{false≢true}
use Rattle.std.proofs.lemmas.List.{drop_more, drop_all}
use Rattle.liquid_model.specs.Find.{find}
use Rattle.liquid_model.specs.View.{view}
use Rattle.liquid_core.specs.Resolved.{resolved_view}
use Rattle.liquid_core.specs.States.{loops_of, FindsLoop}
use Rattle.liquid_core.proofs.Among.{held_unless_loop}
use Rattle.liquid_core.proofs.Steps.{one_on, at_end}
use Rattle.liquid_core.proofs.state.lookup.along.Goals as goal

pub loop-part-preserved : goal.loop-part-preserved
loop-part-preserved c =
    let xs = c.args.steps.now in
    let i = c.loop-part.part-index in
    let x = c.part-item.result in
    let next : drop i xs ≡ x ∷ drop (i + 1) xs = drop_more xs i x c.loop-part-test.true ∙ ap (λ z. z ∷ drop (i + 1) xs) (sym c.part-item.is) in (
      one_on (resolved_view c.loop-part.resolved) (resolved_view c.in-Some.next) x (drop i xs) (drop (i + 1) xs) next c.in-Some.ensures.value ∙ c.loop-part.invariant.0,
      λ scopes outer a. c.in-Some.ensures.among scopes outer (c.loop-part.invariant.1 scopes outer a),
    )

pub returns-in_err-into_value-clause-no_memory : goal.returns-in_err-into_value-clause-no_memory
returns-in_err-into_value-clause-no_memory c = λ s a none.
    let xs = c.args.steps.now in
    let found : Some (resolved_view c.loop-part.resolved) ≡ find (resolved_view c.args.resolved) (map view xs) = at_end (resolved_view c.loop-part.resolved) _ (drop_all c.loop-part.part-index xs (omega arith)) ∙ c.loop-part.invariant.0 in
    let none_found : FindsLoop s (Some (resolved_view c.loop-part.resolved)) → ⊥ = rw found none in
    absurd (false≢true (c.in_err-into_value.ensures.no_memory (held_unless_loop s c.loop-part.resolved (c.loop-part.invariant.1 (loops_of s) s.scopes.items a) none_found)))
