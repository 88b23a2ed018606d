use Rattle.liquid_seen_keys.proofs.Keys.{equal_pages}
use Rattle.liquid_seen_keys.proofs.laws.key_laws.Goals as goal

pub returns : goal.returns
returns c = record { pages = equal_pages }
