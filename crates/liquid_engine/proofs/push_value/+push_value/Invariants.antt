use Rattle.std.proofs.Common.{◌≡◌, ◌≤◌, drop}
use Rattle.liquid_model.specs.Data.{items_text, pairs_text}
use Rattle.liquid_model.specs.View.{items_view, pairs_view}
use Rattle.liquid_engine.specs.Sinks.{sink_of}
use Rattle.liquid_engine.specs.inside.Reserves.{limited_in, reserve_in}
use Rattle.liquid_engine.proofs.Pieces.{GoesOn}
use Rattle.liquid_engine.proofs.push_value.+push_value.Given as goal

abbrev pub invariant-push_items-loop-item : goal.invariant-push_items-loop-item
invariant-push_items-loop-item g l =
    let sink = sink_of g.W.CountedWrite.contents g.W.CountedWrite.failure_count in
    record {
      writes : GoesOn (items_text (items_view (drop l.item-index l.item-items))) (sink l.out) (items_text (items_view l.item-items)) (sink l.initial.out);
      same_writer : l.out.writer.ghost_name ≡ l.initial.out.writer.ghost_name;
      bounded : reserve_in g.W.CountedWrite.left l.out ≤ reserve_in g.W.CountedWrite.left l.initial.out;
      limited : limited_in g.W.CountedWrite.left l.out ≡ limited_in g.W.CountedWrite.left l.initial.out;
    }

abbrev pub invariant-push_pairs-loop-key : goal.invariant-push_pairs-loop-key
invariant-push_pairs-loop-key g l =
    let sink = sink_of g.W.CountedWrite.contents g.W.CountedWrite.failure_count in
    record {
      writes : GoesOn (pairs_text (pairs_view l.key-iterator)) (sink l.out) (pairs_text (pairs_view l.initial.key-iterator)) (sink l.initial.out);
      same_writer : l.out.writer.ghost_name ≡ l.initial.out.writer.ghost_name;
      bounded : reserve_in g.W.CountedWrite.left l.out ≤ reserve_in g.W.CountedWrite.left l.initial.out;
      limited : limited_in g.W.CountedWrite.left l.out ≡ limited_in g.W.CountedWrite.left l.initial.out;
    }
