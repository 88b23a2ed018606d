use Rattle.liquid_records.proofs.Named.{none_yet}
use Rattle.liquid_records.proofs.merge.Merge.new.Goals as goal

pub returns-clause-names : goal.returns-clause-names
returns-clause-names g c = none_yet c.new.result c.new.ensures.empty
