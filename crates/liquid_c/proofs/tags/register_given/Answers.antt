use Rattle.std.proofs.Common.{rules, map}
use Rattle.liquid_core.specs.ExpressionView.{expression_view}
use Rattle.liquid_c.specs.HostTags.{values}
use Rattle.liquid_c.proofs.HostTags.{as_asked}
use Rattle.liquid_c.proofs.tags.register_given.Goals as goal

pub returns-in-Tag : goal.returns-in-Tag
returns-in-Tag c = values (map expression_view c.in-Ok-Some.given.items) (search rules) (as_asked _ _ _ _ _ _ _ _ _ c.in-Tag.is c.register_tag.ensures)

pub returns-in-Block : goal.returns-in-Block
returns-in-Block c = values (map expression_view c.in-Ok-Some.given.items) (search rules) (as_asked _ _ _ _ _ _ _ _ _ c.in-Block.is c.register_block.ensures)
