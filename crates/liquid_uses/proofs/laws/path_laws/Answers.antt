use Rattle.liquid_uses.proofs.PathReading.{paths_ask_all}
use Rattle.liquid_uses.proofs.laws.path_laws.Goals as goal

pub returns : goal.returns
returns c = record { ask_all = paths_ask_all }
