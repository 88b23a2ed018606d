use Rattle.std.proofs.Common.{sym}
use mathlib.Core.Path.{subst}
use Rattle.liquid_core.specs.Expression.{literal}
use Rattle.liquid_model.specs.Data.{text}
use Rattle.liquid_uses.specs.inside.Placing.{Leads}
use Rattle.liquid_uses.specs.declared.places.Place.TheVariants.{Whole, Unnamed, Refused}
use Rattle.liquid_uses.proofs.Steps.{step_whole, step_unnamed, step_refused}
use Rattle.liquid_uses.proofs.places.Place.at.Goals as goal

pub returns-in-Whole : goal.returns-in-Whole
returns-in-Whole c = λ U. subst (λ r. Leads U r (literal (text c.args.key.now)) Whole) (sym c.in-Whole.is) (step_whole c.args.key.now U)

pub returns-in-Asked : goal.returns-in-Asked
returns-in-Asked c = λ U. subst (λ r. Leads U r (literal (text c.args.key.now)) c.member_at.result) (sym c.in-Asked.is) (c.member_at.ensures U)

pub returns-in-Unnamed : goal.returns-in-Unnamed
returns-in-Unnamed c = λ U. subst (λ r. Leads U r (literal (text c.args.key.now)) Unnamed) (sym c.in-Unnamed.is) (step_unnamed c.args.key.now U)

pub returns-in-Refused : goal.returns-in-Refused
returns-in-Refused c = λ U. subst (λ r. Leads U r (literal (text c.args.key.now)) Refused) (sym c.in-Refused.is) (step_refused c.args.key.now U)
