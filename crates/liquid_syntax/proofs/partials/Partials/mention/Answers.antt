use Rattle.std.proofs.Common.{sym, ◌∙◌}
use Rattle.liquid_model.specs.Texts.{same_text}
use Rattle.liquid_syntax.proofs.RunNames.{partials_mention}
use Rattle.liquid_syntax.proofs.partials.Partials.mention.Goals as goal

pub returns : goal.returns
returns c = c.visit_names.ensures.1 ∙ sym (partials_mention (same_text c.args.name.now) c.args.self.now.templates.entries)
