use Rattle.std.proofs.Common.{◌≡◌, [], map, drop}
use Rattle.liquid_model.specs.Cow.{cow_view}
use Rattle.liquid_core.specs.States.{environment_of}
use Rattle.liquid_evaluation.specs.Calls.{applied, call_of}
use Rattle.liquid_evaluation.proofs.filter_call.apply_to.Given as goal

abbrev pub invariant-loop-call : goal.invariant-loop-call
invariant-loop-call g l =
    (applied (map (λ c. call_of (g.F.Filter.answer c.filter) c.args.now c.required) l.calls) (cow_view l.initial.value) (environment_of l.state)
    ≡ applied (map (λ c. call_of (g.F.Filter.answer c.filter) c.args.now c.required) (drop l.call-index l.calls)) (cow_view l.value) (environment_of l.state))
    × (l.calls ≡ [] → l.value ≡ l.initial.value)
