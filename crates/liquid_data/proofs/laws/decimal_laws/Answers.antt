use Rattle.liquid_data.proofs.Alike.{whole_numbers_stay, refused_alike, floats_are_read}
use Rattle.liquid_data.proofs.laws.decimal_laws.Goals as goal

pub returns-clause-whole : goal.returns-clause-whole
returns-clause-whole c = λ source j is e. whole_numbers_stay source j is e

pub returns-clause-refused : goal.returns-clause-refused
returns-clause-refused c = λ source kind e. refused_alike source kind e

pub returns-clause-floats : goal.returns-clause-floats
returns-clause-floats c = λ source e. floats_are_read source e
