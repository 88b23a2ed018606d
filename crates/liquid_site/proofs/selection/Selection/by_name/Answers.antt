use Rattle.std.proofs.Common.{sym, ◌∙◌}
use mathlib.Core.Path.{fun_ext}
use Rattle.liquid_model.specs.Texts.{same_text}
use Rattle.liquid_syntax.specs.Templates.{partials_of}
use Rattle.liquid_site.proofs.Placing.{partials_mention, page_mentions}
use Rattle.liquid_site.proofs.selection.Selection.by_name.Goals as goal

pub returns-then-mention : goal.returns-then-mention
returns-then-mention c = fun_ext (λ nodes. partials_mention (partials_of c.args.partials.now) (same_text c.args.name.now) nodes (sym c.mention.ensures ∙ c.if-mention.true))

pub returns : goal.returns
returns c = fun_ext (λ nodes. page_mentions (partials_of c.args.partials.now) (same_text c.args.name.now) nodes (sym c.mention.ensures ∙ c.if-mention.false))
