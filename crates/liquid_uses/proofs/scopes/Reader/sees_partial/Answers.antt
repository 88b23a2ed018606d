use Rattle.std.specs.Prelude.{T}
use Rattle.std.proofs.Common.{subst}
use Rattle.liquid_uses.specs.inside.Readings.{included_reads, reads_in}
use Rattle.liquid_uses.proofs.scopes.Reader.sees_partial.Goals as goal

pub returns-in-Named : goal.returns-in-Named
returns-in-Named c = λ e q h.
    let R = reads_in c.args.self.now.scopes.readings.now.entries in
    c.sees_named.ensures e q (subst (λ i. T (included_reads R i q)) c.in-Named.is (c.included_by.ensures R q h))
