use Rattle.std.proofs.Common.{sym}
use Rattle.liquid_syntax.specs.Templates.{partials_of, tree_of}
use Rattle.liquid_engine.proofs.PartialRuns.{rendered_name}
use Rattle.liquid_engine.proofs.partial.partial_rendered.Goals as goal

pub returns-in-Some-clause-found : goal.returns-in-Some-clause-found
returns-in-Some-clause-found c = rendered_name (partials_of c.args.partials.now) c.args.name.now (tree_of c.in-Some.partial.now) (sym c.in-Some.ensures.found)
