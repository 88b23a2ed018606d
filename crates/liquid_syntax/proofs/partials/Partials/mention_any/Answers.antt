use Rattle.std.proofs.Common.{sym, ◌∙◌}
use Rattle.liquid_syntax.specs.NameSets.{mentioned_in_set}
use Rattle.liquid_syntax.proofs.RunNames.{partials_mention}
use Rattle.liquid_syntax.proofs.partials.Partials.mention_any.Goals as goal

pub returns : goal.returns
returns c = c.visit_names.ensures.1 ∙ sym (partials_mention (mentioned_in_set c.args.names.now) c.args.self.now.templates.entries)
