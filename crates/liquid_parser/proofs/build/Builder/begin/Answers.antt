use Rattle.std.proofs.Common.{◌∷◌, ◌∙◌, arith, false}
use Rattle.liquid_evaluation.specs.Tree.{no_nodes}
use Rattle.liquid_parser.specs.OpenBlocks.{block_depth, level, begun}
use Rattle.liquid_parser.specs.inside.Building.{opening}
use Rattle.liquid_parser.proofs.Adding.{begins_step, has_room}
use Rattle.liquid_parser.proofs.build.Builder.begin.Goals as goal

pub returns-clause-stack : goal.returns-clause-stack
returns-clause-stack c prepared ls cur b =
    let o = opening c.args.block c.args.stage c.args.node in
    let same = c.in_ok-open.ensures.depth ∙ b.1 in
    let room = has_room c.open.new.self.depth (block_depth ls) c.is_full.result c.is_full.ensures c.if-is_full.false same in (
      (level (begun o) cur false ∷ ls, no_nodes),
      begins_step o ls cur room,
      (c.in_ok-open.ensures.stack prepared ls cur b.0, omega (arith, same)),
    )
