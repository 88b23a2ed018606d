use Rattle.liquid_shopify_host_filters.proofs.WordLaws.{squish_twice}
use Rattle.liquid_shopify_host_filters.proofs.laws.squish_twice_is_once.Goals as goal

pub returns : goal.returns
returns c = squish_twice
