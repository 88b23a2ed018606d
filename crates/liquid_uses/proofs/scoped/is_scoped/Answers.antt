use Rattle.std.specs.Prelude.{T}
use Rattle.std.proofs.Common.{sym, subst}
use Rattle.liquid_uses.specs.inside.Readings.{reads_in}
use Rattle.liquid_uses.specs.inside.Scopes.{partial_reads, visible_to}
use Rattle.liquid_uses.specs.declared.scopes.Reader.{Reader}
use Rattle.liquid_uses.proofs.Scoping.{node_scoped}
use Rattle.liquid_uses.proofs.scoped.is_scoped.Goals as goal

pub returns : goal.returns
returns c = λ h.
    let same = c.visit_reads.ensures.0 in
    node_scoped c.args.scopes c.args.at c.args.node.now (c.ends_after.ensures c.if-not-ends_after.false) (c.visit_reads.ensures.1 c.if-visit_reads.false)
    (λ q r. subst (λ (v : Reader). visible_to v q) same (c.sees_partial.ensures h q (subst (λ (v : Reader). T (partial_reads (reads_in v.scopes.readings.now.entries) c.args.node.now q)) (sym same) r)))
