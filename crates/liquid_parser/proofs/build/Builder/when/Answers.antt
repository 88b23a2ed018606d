use Rattle.std.proofs.Common.{ap, ◌∙◌, sym, refl, map}
use Rattle.std.proofs.lemmas.List.{map-set}
use Rattle.std.proofs.Math.ListN.{get_or-map}
use Rattle.liquid_core.specs.ExpressionView.{expression_view}
use Rattle.liquid_syntax.specs.Flats.{flat_of, flats}
use Rattle.liquid_parser.specs.declared.build.Stage.TheVariants.{WhenBody}
use Rattle.liquid_parser.proofs.Grow.{when_on}
use Rattle.liquid_parser.proofs.build.Builder.when.Goals as goal

pub returns-in_ok-push-in-Some-clause-stack : goal.returns-in_ok-push-in-Some-clause-stack
returns-in_ok-push-in-Some-clause-stack c ls cur b =
    let o = c.in-Some.open in
    let mid = c.end_body.new.nodes in
    let was = ap flat_of c.index_mut.ensures.value ∙ sym (get_or-map flat_of mid.items o.node_index c.index_mut.result.now) in
    let r = when_on (flats c.args.self.now.nodes.items) (flats mid.items) (flats _) c.args.self.now.blocks.items c.pop.new.self.items c.push.new.self.items o (record { node_index = o.node_index; block = o.block; stage = WhenBody; chained = o.chained })
    (map expression_view c.args.values.items) (flat_of c.index_mut.result.now) (flat_of c.add_arm.new.node)
    c.in-Some.ensures.items c.in_ok-push-in-Some.ensures.items c.end_body.ensures.ended (sym c.takes_when.ensures ∙ c.if-not-takes_when.false) (map-set flat_of mid.items o.node_index c.add_arm.new.node) was c.in_ok-add_arm-in-Some.ensures.added refl refl refl refl ls cur b.0 in
    (r.0, r.1, (r.2, b.1 ∙ r.3))
