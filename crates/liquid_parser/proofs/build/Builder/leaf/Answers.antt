use Rattle.std.proofs.Common.{[], ◌∷◌, ap, ◌∙◌, reverse, refl}
use Rattle.std.proofs.lemmas.List.{map-append}
use Rattle.liquid_parser.specs.OpenBlocks.{with_node}
use Rattle.liquid_syntax.specs.Flats.{flat_of, flats}
use Rattle.liquid_parser.proofs.Grow as grow
use Rattle.liquid_parser.proofs.build.Builder.leaf.Goals as goal

pub returns-clause-stack : goal.returns-clause-stack
returns-clause-stack c ls cur b =
    let s = c.args.self.now in (
      (ls, with_node cur ((flat_of c.args.node).head [])),
      refl,
      (grow.leaf (flats s.nodes.items) (flats c.push.new.self.items) (flat_of c.args.node) (reverse s.blocks.items) ls cur (ap flats c.in_ok-push.ensures.items ∙ map-append flat_of s.nodes.items (c.args.node ∷ [])) c.requires b.0, b.1),
    )
