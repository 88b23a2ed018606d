use Rattle.liquid_model.proofs.laws.equality_laws.Goals as goal
use Rattle.liquid_model.proofs.Lawful.{equality_is_an_equivalence, equal_values_hash_alike}

pub returns-clause-equality_is_an_equivalence : goal.returns-clause-equality_is_an_equivalence
returns-clause-equality_is_an_equivalence c = equality_is_an_equivalence

pub returns-clause-equal_values_hash_alike : goal.returns-clause-equal_values_hash_alike
returns-clause-equal_values_hash_alike c = equal_values_hash_alike
