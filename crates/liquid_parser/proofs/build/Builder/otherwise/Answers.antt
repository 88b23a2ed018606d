use Rattle.std.proofs.Common.{◌∙◌, sym, refl}
use Rattle.liquid_syntax.specs.Flats.{flats}
use Rattle.liquid_parser.specs.declared.build.Stage.TheVariants.{Last}
use Rattle.liquid_parser.proofs.Grow.{else_on}
use Rattle.liquid_parser.proofs.build.Builder.otherwise.Goals as goal

pub returns-in_ok-push-in-Some-clause-stack : goal.returns-in_ok-push-in-Some-clause-stack
returns-in_ok-push-in-Some-clause-stack c ls cur b =
    let o = c.in-Some.open in
    let r = else_on (flats c.args.self.now.nodes.items) (flats c.end_body.new.nodes.items) c.args.self.now.blocks.items c.pop.new.self.items c.push.new.self.items o (record { node_index = o.node_index; block = o.block; stage = Last; chained = o.chained })
    c.in-Some.ensures.items c.in_ok-push-in-Some.ensures.items c.end_body.ensures.ended (sym c.takes_else.ensures ∙ c.if-not-takes_else.false) refl refl refl refl ls cur b.0 in
    (r.0, r.1, (r.2, b.1 ∙ r.3))
