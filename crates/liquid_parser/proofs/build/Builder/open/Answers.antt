use Rattle.std.proofs.Common.{[], ◌∷◌, ap, ◌∙◌, sym, refl}
use Rattle.std.proofs.lemmas.List.{length-map, map-append}
use Rattle.liquid_syntax.specs.Flats.{flat_of, flats}
use Rattle.liquid_parser.specs.declared.build.Open.{Open}
use Rattle.liquid_parser.proofs.Grow.{begins_on}
use Rattle.liquid_parser.proofs.build.Builder.open.Goals as goal

pub returns-clause-stack : goal.returns-clause-stack
returns-clause-stack c prepared ls cur built =
    let ns = c.args.self.now.nodes in
    let o : Open = record { node_index = c.len-node_index.result; block = c.args.block; stage = c.args.stage; chained = c.args.chained } in
    begins_on (flats ns.items) (flats c.push.new.self.items) c.args.node c.args.self.now.blocks.items c.push-2.new.self.items o c.args.block c.args.stage ls cur
    (ap flats c.in_ok-push.ensures.items ∙ map-append flat_of ns.items (c.args.node ∷ [])) c.in_ok-push-2.ensures.items
    (c.len-node_index.ensures ∙ ns.ok.0 ∙ sym (length-map ns.items flat_of)) refl refl prepared built
