use Rattle.liquid_jekyll_host_filters.proofs.UrlsAgain.{relative_twice}
use Rattle.liquid_jekyll_host_filters.proofs.laws.relative_url_twice_is_once.Goals as goal

pub returns : goal.returns
returns c = relative_twice
