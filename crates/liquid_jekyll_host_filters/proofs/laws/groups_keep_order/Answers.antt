use Rattle.liquid_jekyll_host_filters.proofs.GroupLaws.{order_law}
use Rattle.liquid_jekyll_host_filters.proofs.laws.groups_keep_order.Goals as goal

pub returns : goal.returns
returns c = order_law
