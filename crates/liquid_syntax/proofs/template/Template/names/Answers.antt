use Rattle.liquid_syntax.proofs.RunNames.{all_gathered}
use Rattle.liquid_syntax.proofs.template.Template.names.Goals as goal

pub returns-clause-exact : goal.returns-clause-exact
returns-clause-exact c =
    let first = rw c.deref.ensures.value at (c.if-visit_nodes.ensures {u = tt}) in
    all_gathered c.args.self.now c.args.partials.now.templates.entries c.new.result c.visit_nodes.new.visitor.names c.visit_names.new.visitor.names c.new.ensures.empty first (c.if-visit_names.ensures {u = tt})
