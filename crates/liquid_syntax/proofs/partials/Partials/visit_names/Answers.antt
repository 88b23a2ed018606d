use Rattle.std.proofs.Common.{◌≡◌, true, false, [], ◌∷◌, ◌++◌, refl, ap, subst, ◌∙◌, rules}
use Rattle.std.specs.Map.{values_of}
use Rattle.liquid_evaluation.proofs.Telling.{ended, went_on}
use Rattle.liquid_syntax.specs.inside.Mentions.{held_names, partials_list_names}
use Rattle.liquid_syntax.proofs.NodeNames.{each_slot}
use Rattle.liquid_syntax.proofs.partials.Partials.visit_names.Goals as goal

pub returns-then-visit_slot : goal.returns-then-visit_slot
returns-then-visit_slot g c =
    let t = c.in-Some.slot.now in
    let rest : c.loop-slot.slot-iterator ≡ t ∷ c.next.new.self = search rules in
    let all : c.into_iter-slot-iterator.result ≡ values_of c.args.self.now.templates.entries = search rules in
    let visits = c.visit_slot.ensures in
    let parts : partials_list_names c.loop-slot.slot-iterator ≡ held_names t ++ partials_list_names c.next.new.self = ap partials_list_names rest ∙ each_slot.more t c.next.new.self in
    subst (λ ts. g.V.NameVisitor.tells c.args.visitor.now (partials_list_names ts) true c.visit_slot.new.visitor) all
    (c.loop-slot.invariant true c.visit_slot.new.visitor (ended g.met.V.NameVisitor.laws _ _ _ (partials_list_names c.next.new.self) _ _ true visits c.if-visit_slot.true refl parts))

pub loop-slot-preserved : goal.loop-slot-preserved
loop-slot-preserved g c = λ r w h.
    let t = c.in-Some.slot.now in
    let rest : c.loop-slot.slot-iterator ≡ t ∷ c.next.new.self = search rules in
    let visits = c.visit_slot.ensures in
    let parts : partials_list_names c.loop-slot.slot-iterator ≡ held_names t ++ partials_list_names c.next.new.self = ap partials_list_names rest ∙ each_slot.more t c.next.new.self in
    c.loop-slot.invariant r w (went_on g.met.V.NameVisitor.laws _ _ _ _ _ _ _ _ visits c.if-visit_slot.false h parts)

pub returns : goal.returns
returns g c =
    let none : c.loop-slot.slot-iterator ≡ [] = search rules in
    let all : c.into_iter-slot-iterator.result ≡ values_of c.args.self.now.templates.entries = search rules in
    let nothing : partials_list_names c.loop-slot.slot-iterator ≡ [] = ap partials_list_names none ∙ each_slot.none in
    subst (λ ts. g.V.NameVisitor.tells c.args.visitor.now (partials_list_names ts) false c.loop-slot.visitor) all
    (c.loop-slot.invariant false c.loop-slot.visitor (rw nothing (g.met.V.NameVisitor.laws.none c.loop-slot.visitor)))
