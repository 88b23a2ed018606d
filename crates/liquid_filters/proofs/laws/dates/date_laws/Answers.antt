use Rattle.liquid_filters.proofs.laws.dates.date_laws.Goals as goal
use Rattle.liquid_filters.proofs.Dated.{date_is_one, date_in_tz_is_one}

pub returns-clause-date_is_one : goal.returns-clause-date_is_one
returns-clause-date_is_one c = date_is_one

pub returns-clause-date_in_tz_is_one : goal.returns-clause-date_in_tz_is_one
returns-clause-date_in_tz_is_one c = date_in_tz_is_one
