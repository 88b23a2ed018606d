use Rattle.std.proofs.Common.{ap, ◌∙◌, sym}
use Rattle.std.proofs.lemmas.List.{length-map, map-set}
use Rattle.std.proofs.Math.ListN.{get_or-map}
use Rattle.liquid_syntax.specs.Flats.{flat_of, flats}
use Rattle.liquid_parser.proofs.Grow.{closes_on}
use Rattle.liquid_parser.proofs.build.Builder.close_one.Goals as goal

pub returns-clause-closes : goal.returns-clause-closes
returns-clause-closes c ls cur h =
    let mid = c.end_body.new.nodes in
    let o = c.in_ok-open.open in
    let long = c.len-end.ensures ∙ mid.ok.0 ∙ sym (length-map mid.items flat_of) in
    let was = ap flat_of c.index_mut.ensures.value ∙ sym (get_or-map flat_of mid.items o.node_index c.index_mut.result.now) in
    closes_on (flats c.args.self.now.nodes.items) (flats mid.items) c.args.self.now.blocks.items o _ (flat_of c.index_mut.result.now) (flat_of c.end_last.new.node) c.len-end.result c.in_ok-open.ensures.items long c.end_body.ensures.ended
    (map-set flat_of mid.items o.node_index c.end_last.new.node) was c.end_last.ensures ls cur h
