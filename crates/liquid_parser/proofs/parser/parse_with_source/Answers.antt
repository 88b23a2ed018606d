use Rattle.std.proofs.Common.{subst, sym}
use Rattle.liquid_parser.specs.Parsing.{IsOnlyTree}
use Rattle.liquid_syntax.proofs.StoredSource.{same_tree}
use Rattle.liquid_parser.proofs.parser.parse_with_source.Goals as goal

pub returns-in-Ok-clause-parses : goal.returns-in-Ok-clause-parses
returns-in-Ok-clause-parses c =
    subst (λ tree. IsOnlyTree c.args.language.now tree c.args.source.now)
    (sym (same_tree c.with_source.result c.in_ok-template.template c.with_source.ensures.list))
    c.in_ok-template.ensures.parses
