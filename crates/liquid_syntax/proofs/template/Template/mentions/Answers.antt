use Rattle.std.proofs.Common.{sym, ap, ◌∙◌}
use Rattle.liquid_model.specs.Texts.{same_text}
use Rattle.liquid_evaluation.specs.Names.{mentioned}
use Rattle.liquid_syntax.specs.inside.Mentions.{list_names}
use Rattle.liquid_syntax.proofs.TreeNames.{template_mentions}
use Rattle.liquid_syntax.proofs.template.Template.mentions.Goals as goal

pub returns : goal.returns
returns c = c.visit_nodes.ensures.1 ∙ ap (λ l. mentioned (list_names l) c.args.name.now) c.deref.ensures.value ∙ sym (template_mentions c.args.self.now (same_text c.args.name.now))
