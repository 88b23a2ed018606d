use Rattle.liquid_filters.proofs.laws.numbers.rounding_laws.Goals as goal
use Rattle.liquid_filters.proofs.RoundingRelation.{rounded_one, round_one}

pub returns-clause-rounded_is_one : goal.returns-clause-rounded_is_one
returns-clause-rounded_is_one c = rounded_one

pub returns-clause-round_is_one : goal.returns-clause-round_is_one
returns-clause-round_is_one c = round_one
