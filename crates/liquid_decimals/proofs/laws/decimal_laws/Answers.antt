use Rattle.liquid_decimals.proofs.ReadBack.{read_back}
use Rattle.liquid_decimals.proofs.Quotients.{is_nearest}
use Rattle.liquid_decimals.proofs.laws.decimal_laws.Goals as goal

pub returns-clause-read_back : goal.returns-clause-read_back
returns-clause-read_back c = read_back

pub returns-clause-nearest : goal.returns-clause-nearest
returns-clause-nearest c = is_nearest
