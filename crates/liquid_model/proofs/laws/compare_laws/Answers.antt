use Rattle.liquid_model.proofs.laws.compare_laws.Goals as goal
use Rattle.liquid_model.proofs.Lawful.{compare_agrees_with_equality, compare_without_answer, compare_by_first_unequal_place}
use Rattle.liquid_model.proofs.Lawful.{compare_pair_by_pair}

pub returns-clause-compare_agrees_with_equality : goal.returns-clause-compare_agrees_with_equality
returns-clause-compare_agrees_with_equality c = compare_agrees_with_equality

pub returns-clause-compare_without_answer : goal.returns-clause-compare_without_answer
returns-clause-compare_without_answer c = compare_without_answer

pub returns-clause-compare_by_first_unequal_place : goal.returns-clause-compare_by_first_unequal_place
returns-clause-compare_by_first_unequal_place c = compare_by_first_unequal_place

pub returns-clause-compare_pair_by_pair : goal.returns-clause-compare_pair_by_pair
returns-clause-compare_pair_by_pair c = compare_pair_by_pair
