use Rattle.std.proofs.Common.{◌≡◌, true, sym}
use mathlib.Core.Path.{subst}
use Rattle.liquid_uses.specs.inside.Chains.{takes}
use Rattle.liquid_uses.specs.inside.Placing.{option_use}
use Rattle.liquid_uses.proofs.place_pairs.Pair.takes_found.Goals as goal

pub returns-in-Some : goal.returns-in-Some
returns-in-Some c = λ h. subst (λ o. takes c.args.self (option_use o) ≡ true) (sym c.in-Some.is) (c.takes.ensures h)

pub returns-in-None : goal.returns-in-None
returns-in-None c = λ h. subst (λ o. takes c.args.self (option_use o) ≡ true) (sym c.in-None.is) (c.is_open.ensures h)
