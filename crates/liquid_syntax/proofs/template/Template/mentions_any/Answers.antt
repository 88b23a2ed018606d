use Rattle.std.proofs.Common.{sym, ap, ◌∙◌}
use Rattle.std.specs.List.{list_any}
use Rattle.liquid_syntax.specs.NameSets.{mentioned_in_set}
use Rattle.liquid_syntax.specs.inside.Mentions.{list_names}
use Rattle.liquid_syntax.proofs.TreeNames.{template_mentions}
use Rattle.liquid_syntax.proofs.template.Template.mentions_any.Goals as goal

pub returns : goal.returns
returns c = c.visit_nodes.ensures.1 ∙ ap (λ l. list_any (mentioned_in_set c.args.names.now) (list_names l)) c.deref.ensures.value ∙ sym (template_mentions c.args.self.now (mentioned_in_set c.args.names.now))
