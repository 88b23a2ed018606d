use Rattle.liquid_parser.specs.inside.Building.{of_bodies}
use Rattle.liquid_syntax.specs.Flats.{flat_of}
use Rattle.liquid_parser.specs.OpenBlocks.{to_elsif}
use Rattle.liquid_parser.proofs.Adding.{elsif_opens}
use Rattle.liquid_parser.proofs.build.Builder.elsif.Goals as goal

pub returns-in-Ok-clause-stack : goal.returns-in-Ok-clause-stack
returns-in-Ok-clause-stack c prepared ls cur b =
    let next = of_bodies (flat_of c.args.node) in
    let s = c.in-Ok.ensures.stack ls cur b in
    elsif_opens c.open.result c.open.new.self c.end_first.new.self c.in-Ok.block c.args.node (to_elsif next ls cur) s.0 c.open.ensures.fails (s.2 next) c.open.ensures.depth (c.open.ensures.stack prepared) s.1
