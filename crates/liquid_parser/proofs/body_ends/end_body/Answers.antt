use Rattle.std.proofs.Common.{sym, ap, ◌∙◌, subst, ◌+◌, slice_set}
use Rattle.std.proofs.lemmas.List.{length-map, map-set, take-map}
use Rattle.std.proofs.Math.ListN.{get_or-map}
use Rattle.liquid_parser.specs.inside.Building.{BodyEnded, before_last_ended}
use Rattle.liquid_syntax.specs.Flats.{flat_of, flats}
use Rattle.liquid_parser.specs.declared.build.Stage.{Stage}
use Rattle.liquid_parser.proofs.body_ends.end_body.Goals as goal

pub returns-in-First-clause-ended : goal.returns-in-First-clause-ended
returns-in-First-clause-ended c =
    let ns = c.args.nodes.now in
    let at = c.args.block.node_index in
    let old = c.index_mut.result.now in
    let long = c.len-end.ensures ∙ ns.ok.0 ∙ sym (length-map ns.items flat_of) in
    let was = ap flat_of c.index_mut.ensures.value ∙ sym (get_or-map flat_of ns.items at old) in
    let set = map-set flat_of ns.items at c.end_before_last.new.node ∙ ap (slice_set (flats ns.items) at) (c.end_before_last.ensures ∙ ap (λ n. before_last_ended n (flat_of old)) long) in
    subst (λ (s : Stage). BodyEnded s at (flats ns.items) (flats (slice_set ns.items at c.end_before_last.new.node))) (sym c.in-First.is) (flat_of old, was, set)

pub returns-in-CaseHead-clause-ended : goal.returns-in-CaseHead-clause-ended
returns-in-CaseHead-clause-ended c =
    let ns = c.args.nodes.now in
    let at = c.args.block.node_index in
    subst (λ (s : Stage). BodyEnded s at (flats ns.items) (flats c.truncate.new.self.items)) (sym c.in-CaseHead.is) (ap flats c.truncate.ensures.items ∙ sym (take-map flat_of (at + 1) ns.items))

pub returns-in-WhenBody-clause-ended : goal.returns-in-WhenBody-clause-ended
returns-in-WhenBody-clause-ended c =
    let ns = c.args.nodes.now in
    let at = c.args.block.node_index in
    let old = c.index_mut-in-WhenBody.result.now in
    let long = c.len-end.ensures ∙ ns.ok.0 ∙ sym (length-map ns.items flat_of) in
    let was = ap flat_of c.index_mut-in-WhenBody.ensures.value ∙ sym (get_or-map flat_of ns.items at old) in
    let set = map-set flat_of ns.items at c.end_before_last-in-WhenBody.new.node ∙ ap (slice_set (flats ns.items) at) (c.end_before_last-in-WhenBody.ensures ∙ ap (λ n. before_last_ended n (flat_of old)) long) in
    subst (λ (s : Stage). BodyEnded s at (flats ns.items) (flats (slice_set ns.items at c.end_before_last-in-WhenBody.new.node))) (sym c.in-WhenBody.is) (flat_of old, was, set)
