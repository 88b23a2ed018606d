use Rattle.liquid_uses.specs.inside.Readings.{reads_in}
use Rattle.liquid_uses.proofs.FreeTree.{template_reads}
use Rattle.liquid_uses.proofs.partial_reads.names_known.Goals as goal

pub returns-clause-known : goal.returns-clause-known
returns-clause-known c = λ e q h.
    let scoped = rw c.nodes-nodes.ensures at (c.in_ok-is_scoped.ensures.scoped e) in
    template_reads (reads_in c.args.readings.now.entries) _ c.args.partial.now _ scoped q h
