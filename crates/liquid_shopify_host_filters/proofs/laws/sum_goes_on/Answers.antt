use Rattle.liquid_shopify_host_filters.proofs.SumLaws.{goes_on}
use Rattle.liquid_shopify_host_filters.proofs.laws.sum_goes_on.Goals as goal

pub returns : goal.returns
returns c = goes_on
