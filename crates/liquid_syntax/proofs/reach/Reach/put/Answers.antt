use Rattle.std.proofs.Common.{string_bytes}
use Rattle.liquid_syntax.specs.Reached.{had}
use Rattle.liquid_syntax.specs.Templates.{partials_of, tree_of}
use Rattle.liquid_syntax.proofs.Reaching.{AllSettled, settled_on, settled_put}
use Rattle.liquid_syntax.proofs.Wanting.{spreads}
use Rattle.liquid_syntax.proofs.reach.Reach.put.Goals as goal

pub invariant_of-self : goal.invariant_of-self
invariant_of-self c =
    let old = c.args.self.now in
    let v = c.add_calls.new.self in
    let ps = partials_of old.partials in
    let all : AllSettled v ps (tree_of old.template.now) = settled_on old.wanted v ps (tree_of old.template.now) (spreads old.wanted v (had ps) c.add_calls.ensures.widens) (old.own, old.others) in
    record { own = all.0; others = all.1 }

pub invariant_of-self-2 : goal.invariant_of-self-2
invariant_of-self-2 c =
    let old = c.args.self.now in
    let v = c.add_calls.new.self in
    let ps = partials_of old.partials in
    let qs = partials_of c.insert.new.self in
    let all : AllSettled v qs (tree_of old.template.now) =
    settled_put old.wanted v ps qs (string_bytes c.args.name) (tree_of c.args.partial) (tree_of old.template.now) c.insert.result c.in_ok-add_calls.ensures.widens c.insert.ensures.inserted c.insert.ensures.looked_up c.insert.ensures.unchanged c.in_ok-add_calls.ensures.settled (old.own, old.others) in
    record { own = all.0; others = all.1 }
