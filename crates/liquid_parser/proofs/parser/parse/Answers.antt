use Rattle.std.proofs.Common.{subst, sym}
use Rattle.liquid_parser.specs.Parsing.{IsOnlyTree}
use Rattle.liquid_parser.proofs.TemplateLaws.{only_kept}
use Rattle.liquid_syntax.specs.Templates.{tree_of}
use Rattle.liquid_parser.proofs.parser.parse.Goals as goal

pub returns-in-Ok-clause-parses : goal.returns-in-Ok-clause-parses
returns-in-Ok-clause-parses c =
    subst (λ tree. IsOnlyTree c.args.language.now tree c.args.source.now)
    (sym c.kept.ensures)
    (only_kept c.args.language.now (tree_of c.in-Ok.template) c.args.source.now c.in-Ok.ensures)
