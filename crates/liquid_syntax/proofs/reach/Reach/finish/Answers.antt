use Rattle.liquid_syntax.specs.Templates.{partials_of, tree_of}
use Rattle.liquid_syntax.proofs.Reaching.{closed_names}
use Rattle.liquid_syntax.proofs.reach.Reach.finish.Goals as goal

pub returns-clause-closed : goal.returns-clause-closed
returns-clause-closed c none = closed_names c.args.self.wanted (partials_of c.args.self.partials) none (tree_of c.args.self.template.now) c.args.self.own c.args.self.others
