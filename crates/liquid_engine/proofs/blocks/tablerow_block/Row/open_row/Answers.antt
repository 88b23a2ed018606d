use Rattle.std.proofs.Common.{◌+◌, ◌==◌, ◌++◌, ℕ, [], codes, subst, sym}
use Rattle.std.specs.Prelude.{◌/◌, decimal, if◌then◌else◌}
use Rattle.liquid_engine.specs.Performs.{WritesText}
use Rattle.liquid_engine.specs.Sinks.{sink_of}
use Rattle.liquid_engine.proofs.blocks.tablerow_block.Row.open_row.Goals as goal

pub returns-then-place-self-eq0-clause-writes : goal.returns-then-place-self-eq0-clause-writes
returns-then-place-self-eq0-clause-writes g c =
    let sink = sink_of g.W.CountedWrite.contents g.W.CountedWrite.failure_count in
    let row = codes "<tr class=\"row" ++ (decimal (c.args.place / c.args.self.columns.count + 1) ++ codes "\">") in
    subst (λ (n : ℕ). WritesText c.push_numbered.result (if n == 0 then row else []) (sink c.args.out.now) (sink c.push_numbered.new.out)) (sym c.if-place-self-eq0.true) c.push_numbered.ensures.writes

pub returns-then-place-self-eq0-clause-bounded : goal.returns-then-place-self-eq0-clause-bounded
returns-then-place-self-eq0-clause-bounded g c = c.push_numbered.ensures.bounded
