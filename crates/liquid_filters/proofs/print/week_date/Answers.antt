use Rattle.liquid_filters.proofs.Weeks.{year_is, week_is}
use Rattle.liquid_filters.proofs.print.week_date.Goals as goal

pub returns-clause-year : goal.returns-clause-year
returns-clause-year c = year_is c.args.datetime.date c.from_date.result c.from_date.ensures

pub returns-clause-week : goal.returns-clause-week
returns-clause-week c =
    week_is c.from_date.result _ _ c.from_date.ensures (year_is c.args.datetime.date c.from_date.result c.from_date.ensures)
