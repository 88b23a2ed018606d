use Rattle.std.proofs.Common.{rules}
use Rattle.liquid_filter_sets.proofs.SectionCalls.{section_of}
use Rattle.liquid_filter_sets.proofs.shopify_tags.section_call.Goals as goal

pub returns : goal.returns
returns c = section_of c.in_ok-from_str-2.field-0 c.in_ok-from_str.field-0 c.new.result c.new-2.result (search rules) (search rules) (search rules) (search rules)
