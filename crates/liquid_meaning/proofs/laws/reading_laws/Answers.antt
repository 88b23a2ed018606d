use Rattle.liquid_meaning.proofs.laws.reading_laws.Goals as goal
use Rattle.liquid_meaning.proofs.Reading.{reads_alone}
use Rattle.liquid_meaning.proofs.ProjectedRuns.{projected_run, same_sight}
use Rattle.liquid_meaning.proofs.FilterNeeds.{known_respected}
use Rattle.liquid_meaning.proofs.Covering.{all_respect, names_cover}

pub returns-clause-reads : goal.returns-clause-reads
returns-clause-reads c = reads_alone

pub returns-clause-all : goal.returns-clause-all
returns-clause-all c = all_respect

pub returns-clause-names : goal.returns-clause-names
returns-clause-names c = names_cover

pub returns-clause-projected_run : goal.returns-clause-projected_run
returns-clause-projected_run c = projected_run

pub returns-clause-known : goal.returns-clause-known
returns-clause-known c = known_respected

pub returns-clause-same_sight : goal.returns-clause-same_sight
returns-clause-same_sight c = same_sight
