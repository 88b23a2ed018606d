use Rattle.liquid_syntax.specs.Reached.{had}
use Rattle.liquid_syntax.specs.Templates.{partials_of, tree_of}
use Rattle.liquid_syntax.proofs.Reaching.{AllSettled, settled_on}
use Rattle.liquid_syntax.proofs.Wanting.{asked_more, spreads}
use Rattle.liquid_syntax.specs.declared.wanted.Wanted.{Wanted}
use Rattle.liquid_syntax.proofs.reach.Reach.want.Goals as goal

pub invariant_of-self : goal.invariant_of-self
invariant_of-self c =
    let old = c.args.self.now in
    let v : Wanted = record { any = old.wanted.any; asked = c.add.new.self; fallbacks = old.wanted.fallbacks } in
    let ps = partials_of old.partials in
    let all : AllSettled v ps (tree_of old.template.now) = settled_on old.wanted v ps (tree_of old.template.now) (spreads old.wanted v (had ps) (asked_more old.wanted c.add.new.self c.add.ensures.keeps)) (old.own, old.others) in
    record { own = all.0; others = all.1 }
