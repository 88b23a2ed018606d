use Rattle.liquid_syntax.specs.Templates.{partials_of, tree_of}
use Rattle.liquid_syntax.proofs.Reaching.{AllSettled, settled_on}
use Rattle.liquid_syntax.proofs.reach.Reach.settle.Goals as goal

pub invariant_of-self : goal.invariant_of-self
invariant_of-self c =
    let old = c.args.self.now in
    let v = c.settle.new.self in
    let ps = partials_of old.partials in
    let all : AllSettled v ps (tree_of old.template.now) = settled_on old.wanted v ps (tree_of old.template.now) c.settle.ensures.spreads (old.own, old.others) in
    record { own = all.0; others = all.1 }
