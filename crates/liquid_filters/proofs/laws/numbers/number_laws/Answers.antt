use Rattle.liquid_filters.proofs.laws.numbers.number_laws.Goals as goal
use Rattle.liquid_filters.proofs.Operations.{plus_one, minus_one, times_one, divided_by_one, modulo_one, at_least_one, at_most_one}
use Rattle.liquid_filters.proofs.Operations.{abs_one, quotient_and_remainder}
use Rattle.std.proofs.Common.{sym, ◌∙◌}
use Rattle.liquid_filters.proofs.Divisions.{division_is}

pub returns-clause-plus_is_one : goal.returns-clause-plus_is_one
returns-clause-plus_is_one c = plus_one

pub returns-clause-minus_is_one : goal.returns-clause-minus_is_one
returns-clause-minus_is_one c = minus_one

pub returns-clause-times_is_one : goal.returns-clause-times_is_one
returns-clause-times_is_one c = times_one

pub returns-clause-divided_by_is_one : goal.returns-clause-divided_by_is_one
returns-clause-divided_by_is_one c = divided_by_one

pub returns-clause-modulo_is_one : goal.returns-clause-modulo_is_one
returns-clause-modulo_is_one c = modulo_one

pub returns-clause-at_least_is_one : goal.returns-clause-at_least_is_one
returns-clause-at_least_is_one c = at_least_one

pub returns-clause-at_most_is_one : goal.returns-clause-at_most_is_one
returns-clause-at_most_is_one c = at_most_one

pub returns-clause-abs_is_one : goal.returns-clause-abs_is_one
returns-clause-abs_is_one c = abs_one

pub returns-clause-quotient_and_remainder : goal.returns-clause-quotient_and_remainder
returns-clause-quotient_and_remainder c = quotient_and_remainder

pub returns-clause-division_is_one : goal.returns-clause-division_is_one
returns-clause-division_is_one c = λ a b h q r d s t e. ((division_is a b q r d).0 ∙ sym (division_is a b s t e).0, (division_is a b q r d).1 ∙ sym (division_is a b s t e).1)
