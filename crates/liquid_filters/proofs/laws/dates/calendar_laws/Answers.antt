use Rattle.liquid_filters.proofs.laws.dates.calendar_laws.Goals as goal
use Rattle.liquid_filters.proofs.Clocks.{clock_of_instant, instant_of_clock}

pub returns-clause-clock_of_instant : goal.returns-clause-clock_of_instant
returns-clause-clock_of_instant c = clock_of_instant

pub returns-clause-instant_of_clock : goal.returns-clause-instant_of_clock
returns-clause-instant_of_clock c = instant_of_clock
