use Rattle.std.proofs.Common.{◌≡◌, true, ◌&&◌, [], ◌∷◌, ap, sym, ◌∙◌, rules}
use Rattle.std.specs.Map.{values_of}
use Rattle.liquid_model.specs.UseViews.{uses_view}
use Rattle.liquid_uses.specs.inside.OwnGrants.{held_grants, slots_grant, slot_values}
use Rattle.liquid_uses.proofs.EachGrants.{each_slot}
use Rattle.liquid_uses.proofs.Steps.{true_both}
use Rattle.liquid_uses.proofs.covering.partials_granted.Goals as goal

pub loop-slot-preserved : goal.loop-slot-preserved
loop-slot-preserved c = λ h.
    let U = uses_view c.args.uses.now in
    let t = c.in-Some.slot.now in
    let rest : c.loop-slot.slot-iterator ≡ t ∷ c.next.new.self = search rules in
    let passed : c.slot_granted.result ≡ true = search rules in
    c.loop-slot.invariant (ap (slots_grant U) rest ∙ (each_slot U).more t c.next.new.self ∙ true_both _ _ (c.slot_granted.ensures passed) h)

pub returns : goal.returns
returns c = λ h.
    let U = uses_view c.args.uses.now in
    let none : c.loop-slot.slot-iterator ≡ [] = search rules in
    let all : c.into_iter-slot-iterator.result ≡ slot_values c.args.partials.now = search rules in
    ap (slots_grant U) (sym all) ∙ c.loop-slot.invariant (ap (slots_grant U) none ∙ (each_slot U).none)
