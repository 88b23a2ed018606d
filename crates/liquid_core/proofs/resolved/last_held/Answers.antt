use Rattle.std.proofs.Common.{rules, ◌∙◌}
use Rattle.std.proofs.lemmas.List.{nil_from_length}
use Rattle.liquid_core.proofs.States.{found_in_last, missing_in_last, missing_in_none}
use Rattle.liquid_core.proofs.resolved.last_held.Goals as goal

pub loop-scope-init : goal.loop-scope-init
loop-scope-init c = search rules

pub returns-in-Some-look_up : goal.returns-in-Some-look_up
returns-in-Some-look_up c =
    let all = c.loop-scope.scope-iterator.iter.rest.now in
    let here = found_in_last c.args.name.now c.next.new.self.iter.rest.now all c.in-Some.scope.now _ c.in-Some.ensures.steps c.in-Some-look_up.ensures (search rules) in
    here ∙ c.loop-scope.invariant

pub loop-scope-preserved : goal.loop-scope-preserved
loop-scope-preserved c =
    missing_in_last c.args.name.now c.next.new.self.iter.rest.now c.loop-scope.scope-iterator.iter.rest.now c.in-Some.scope.now c.in-Some.ensures.steps c.in_default.ensures ∙ c.loop-scope.invariant

pub returns : goal.returns
returns c = missing_in_none c.args.name.now c.loop-scope.scope-iterator.iter.rest.now (nil_from_length _ c.in-None.ensures.steps.0) ∙ c.loop-scope.invariant
