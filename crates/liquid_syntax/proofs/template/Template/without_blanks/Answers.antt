use Rattle.std.proofs.Common.{◌≡◌, length, sym, ap, ◌∙◌, subst, false}
use Rattle.std.proofs.lemmas.List.{with_items_is}
use Rattle.std.specs.Vec.{with_items}
use Rattle.liquid_syntax.specs.Flats.{ends_of_nodes, flats}
use Rattle.liquid_syntax.specs.Nested.{AreNested}
use Rattle.liquid_syntax.specs.Laid.{IsLaidOut}
use Rattle.liquid_syntax.specs.inside.BlankNodes.{own_flats, tidied_all}
use Rattle.liquid_syntax.proofs.Blanked.{emptied_nests, emptied_tree, own_forest, own_stands}
use Rattle.liquid_syntax.proofs.template.Template.without_blanks.Goals as goal

pub empty_blanks-requires : goal.empty_blanks-requires
empty_blanks-requires c =
    let f = own_forest c.args.self in
    let long : length c.args.self.nodes.items ≡ c.len-end.result = ap length (sym c.deref_mut.ensures.value) ∙ c.deref_mut.ensures.len ∙ sym c.len-end.ensures in
    (f, subst (λ l. IsLaidOut (own_flats l) 0 f c.len-end.result) (sym c.deref_mut.ensures.value) (subst (IsLaidOut (own_flats c.args.self.nodes.items) 0 f) long (own_stands c.args.self)))

pub invariant_of-result : goal.invariant_of-result
invariant_of-result c =
    let f = own_forest c.args.self in
    let long : length c.args.self.nodes.items ≡ c.len-end.result = ap length (sym c.deref_mut.ensures.value) ∙ c.deref_mut.ensures.len ∙ sym c.len-end.ensures in
    let us = c.empty_blanks.new.nodes in
    let stands = c.empty_blanks.ensures.laid f (subst (λ l. IsLaidOut (own_flats l) 0 f c.len-end.result) (sym c.deref_mut.ensures.value) (subst (IsLaidOut (own_flats c.args.self.nodes.items) 0 f) long (own_stands c.args.self))) in
    let all : c.len-end.result ≡ length us = sym long ∙ ap length (sym c.deref_mut.ensures.value) ∙ sym c.empty_blanks.ensures.length in
    let filled : (with_items c.args.self.nodes us).items ≡ us = with_items_is c.args.self.nodes us (sym all ∙ c.len-end.ensures) in
    record { nested = subst (λ l. AreNested (ends_of_nodes l)) (sym filled) (emptied_nests us (tidied_all false false f) (subst (IsLaidOut (flats us) 0 (tidied_all false false f)) all stands)) }

pub returns-clause-tree : goal.returns-clause-tree
returns-clause-tree c =
    let f = own_forest c.args.self in
    let long : length c.args.self.nodes.items ≡ c.len-end.result = ap length (sym c.deref_mut.ensures.value) ∙ c.deref_mut.ensures.len ∙ sym c.len-end.ensures in
    let us = c.empty_blanks.new.nodes in
    let stands = c.empty_blanks.ensures.laid f (subst (λ l. IsLaidOut (own_flats l) 0 f c.len-end.result) (sym c.deref_mut.ensures.value) (subst (IsLaidOut (own_flats c.args.self.nodes.items) 0 f) long (own_stands c.args.self))) in
    let all : c.len-end.result ≡ length us = sym long ∙ ap length (sym c.deref_mut.ensures.value) ∙ sym c.empty_blanks.ensures.length in
    let filled : (with_items c.args.self.nodes us).items ≡ us = with_items_is c.args.self.nodes us (sym all ∙ c.len-end.ensures) in
    emptied_tree c.args.self _ us filled (subst (IsLaidOut (flats us) 0 (tidied_all false false f)) all stands)
