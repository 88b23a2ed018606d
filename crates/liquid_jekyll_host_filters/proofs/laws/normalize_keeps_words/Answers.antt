use Rattle.liquid_jekyll_host_filters.proofs.WordLaws.{normalize_keeps}
use Rattle.liquid_jekyll_host_filters.proofs.laws.normalize_keeps_words.Goals as goal

pub returns : goal.returns
returns c = normalize_keeps
