use Rattle.liquid_jekyll_host_filters.proofs.UrlsAgain.{absolute_twice}
use Rattle.liquid_jekyll_host_filters.proofs.laws.absolute_url_twice_is_once.Goals as goal

pub returns : goal.returns
returns c = absolute_twice
