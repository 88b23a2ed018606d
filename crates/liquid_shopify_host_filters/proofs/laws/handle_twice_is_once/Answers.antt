use Rattle.liquid_shopify_host_filters.proofs.WordLaws.{handle_twice}
use Rattle.liquid_shopify_host_filters.proofs.laws.handle_twice_is_once.Goals as goal

pub returns : goal.returns
returns c = handle_twice
