use Rattle.std.proofs.Common.{arith, refl, string_bytes}
use Rattle.std.proofs.lemmas.Grind.{text_groups}
use Rattle.liquid_jekyll_host_filters.specs.inside.Members.{items_under}
use Rattle.liquid_jekyll_host_filters.proofs.GroupedItems.{one_more_member}
use Rattle.liquid_jekyll_host_filters.proofs.groups.add_member.Goals as goal

pub returns-clause-members : goal.returns-clause-members
returns-clause-members c =
    λ q. one_more_member (items_under c.args.members.now q) _ c.args.item.now c.args.item (string_bytes c.args.text) (string_bytes c.args.text) q (grind (arith, text_groups)) refl refl
