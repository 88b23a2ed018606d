use Rattle.std.proofs.Common.{◌≡◌, [], ◌∷◌, sym, subst, rules}
use Rattle.liquid_uses.specs.inside.Readings.{SlotKnown, SlotsKnown}
use Rattle.liquid_uses.proofs.PartialReads.{slots_cover}
use Rattle.liquid_uses.proofs.partial_reads.are_known.Goals as goal

pub loop-name-preserved : goal.loop-name-preserved
loop-name-preserved c = λ h.
    let es = c.args.readings.now.entries in
    let held = c.in-Some.slot.now in
    let rest : c.loop-name.name-iterator ≡ (c.in-Some.name.now, held) ∷ c.next.new.self = search rules in
    c.loop-name.invariant (subst (SlotsKnown es) (sym rest) (subst (λ n. SlotKnown es n held) c.as_str.ensures.value (c.in_ok-is_known.ensures.known c.if-not-is_known.false), h))

pub returns-clause-covered : goal.returns-clause-covered
returns-clause-covered c = λ e.
    let es = c.args.readings.now.entries in
    let none : c.loop-name.name-iterator ≡ [] = search rules in
    let all : c.into_iter-name-iterator.result ≡ c.args.partials.now.templates.entries = search rules in
    slots_cover es c.args.partials.now.templates.entries (subst (SlotsKnown es) all (c.loop-name.invariant (subst (SlotsKnown es) (sym none) tt)))
