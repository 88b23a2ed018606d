use Rattle.std.proofs.Common.{◌≡◌, ◌≤◌}
use Rattle.liquid_engine.specs.Sinks.{sink_of}
use Rattle.liquid_engine.specs.inside.Reserves.{limited_in, reserve_in}
use Rattle.liquid_engine.proofs.node_grants.take_pairs.Given as goal

abbrev pub invariant-loop-binding : goal.invariant-loop-binding
invariant-loop-binding g l =
    let sink = sink_of g.W.CountedWrite.contents g.W.CountedWrite.failure_count in
    record {
      same_sink : sink l.out ≡ sink l.initial.out;
      same_writer : l.out.writer.ghost_name ≡ l.initial.out.writer.ghost_name;
      bounded : reserve_in g.W.CountedWrite.left l.out ≤ reserve_in g.W.CountedWrite.left l.initial.out;
      limited : limited_in g.W.CountedWrite.left l.out ≡ limited_in g.W.CountedWrite.left l.initial.out;
    }
