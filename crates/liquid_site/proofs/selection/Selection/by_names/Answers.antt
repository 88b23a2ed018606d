use Rattle.std.proofs.Common.{sym, ◌∙◌}
use mathlib.Core.Path.{fun_ext}
use Rattle.liquid_syntax.specs.NameSets.{mentioned_in_set}
use Rattle.liquid_syntax.specs.Templates.{partials_of}
use Rattle.liquid_site.proofs.Placing.{partials_mention, page_mentions}
use Rattle.liquid_site.proofs.selection.Selection.by_names.Goals as goal

pub returns-then-mention_any : goal.returns-then-mention_any
returns-then-mention_any c = fun_ext (λ nodes. partials_mention (partials_of c.args.partials.now) (mentioned_in_set c.args.names.now) nodes (sym c.mention_any.ensures ∙ c.if-mention_any.true))

pub returns : goal.returns
returns c = fun_ext (λ nodes. page_mentions (partials_of c.args.partials.now) (mentioned_in_set c.args.names.now) nodes (sym c.mention_any.ensures ∙ c.if-mention_any.false))
