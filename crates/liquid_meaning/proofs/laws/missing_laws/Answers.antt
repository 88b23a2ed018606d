use Rattle.liquid_meaning.proofs.laws.missing_laws.Goals as goal
use Rattle.liquid_meaning.proofs.GivenValues.{given_are_literals}
use Rattle.liquid_meaning.proofs.Lenient.{lenient_extends, none_unknown}

pub returns-clause-extends : goal.returns-clause-extends
returns-clause-extends c = lenient_extends

pub returns-clause-known : goal.returns-clause-known
returns-clause-known c = none_unknown

pub returns-clause-given : goal.returns-clause-given
returns-clause-given c = given_are_literals
