use Rattle.liquid_evaluation.proofs.laws.range_laws.Goals as goal
use Rattle.liquid_evaluation.proofs.Sources.{source_in_two_steps, items_by_place}

pub returns-clause-steps : goal.returns-clause-steps
returns-clause-steps c = source_in_two_steps

pub returns-clause-places : goal.returns-clause-places
returns-clause-places c = items_by_place
