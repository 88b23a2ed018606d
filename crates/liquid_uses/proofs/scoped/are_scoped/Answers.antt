use Rattle.std.proofs.Common.{◌≡◌, true, length, subst, sym, arith, rules}
use Rattle.liquid_uses.specs.inside.Scopes.{NodeScoped, ends_at}
use Rattle.liquid_uses.proofs.Scoping.{all_scoped, none_before, one_more}
use Rattle.liquid_uses.proofs.scoped.are_scoped.Goals as goal

pub loop-at-init : goal.loop-at-init
loop-at-init c = none_before c.args.scopes

pub loop-at-preserved : goal.loop-at-preserved
loop-at-preserved c = one_more c.args.scopes c.loop-at.at c.index-scopes-at.result c.index-scopes-at.is (omega arith) c.loop-at.invariant (subst (NodeScoped c.args.scopes c.loop-at.at) (sym c.index-scopes-at.is) (c.is_scoped.ensures c.if-not-is_scoped.false))

pub returns-clause-scoped : goal.returns-clause-scoped
returns-clause-scoped c = λ e.
    let start : ends_at c.args.scopes.ends.now 0 (length c.args.scopes.nodes.now) ≡ true = search rules in
    all_scoped c.args.scopes start c.loop-at.at (omega arith) c.loop-at.invariant
