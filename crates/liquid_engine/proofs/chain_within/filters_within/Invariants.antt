use Rattle.std.proofs.Common.{◌≡◌, ◌≤◌, map, drop}
use Rattle.liquid_model.specs.Cow.{cow_view}
use Rattle.liquid_core.specs.States.{environment_of}
use Rattle.liquid_evaluation.specs.Calls.{applied}
use Rattle.liquid_evaluation.specs.ChainView.{chain_filter_view}
use Rattle.liquid_evaluation.specs.Evaluation.{answers_in, answers_with, calls_by, through}
use Rattle.liquid_engine.specs.Sinks.{sink_of}
use Rattle.liquid_engine.specs.inside.ChainBytes.{through_bytes}
use Rattle.liquid_engine.specs.inside.Reserves.{limited_in, reserve_in}
use Rattle.liquid_engine.proofs.ChainBytes.{Taken}
use Rattle.liquid_engine.proofs.chain_within.filters_within.Given as goal

abbrev pub invariant-loop-stored : goal.invariant-loop-stored
invariant-loop-stored g l =
    let sink = sink_of g.W.CountedWrite.contents g.W.CountedWrite.failure_count in
    let e = environment_of l.state in
    let answers = answers_with (g.H.NamedFilters.named l.host) in
    let filters = map chain_filter_view l.filters in
    record {
      value : through answers filters (cow_view l.initial.value) e ≡ applied (calls_by (answers_in e.missing answers) (map chain_filter_view (drop l.stored-index l.filters))) (cow_view l.value) e;
      same_sink : sink l.out ≡ sink l.initial.out;
      taken : Taken (through_bytes answers filters (cow_view l.initial.value) e) (answers_in e.missing answers) chain_filter_view e (drop l.stored-index l.filters) (cow_view l.value) (g.W.CountedWrite.left l.initial.out.writer.now) (g.W.CountedWrite.left l.out.writer.now);
      same_writer : l.out.writer.ghost_name ≡ l.initial.out.writer.ghost_name;
      bounded : reserve_in g.W.CountedWrite.left l.out ≤ reserve_in g.W.CountedWrite.left l.initial.out;
      limited : limited_in g.W.CountedWrite.left l.out ≡ limited_in g.W.CountedWrite.left l.initial.out;
    }
