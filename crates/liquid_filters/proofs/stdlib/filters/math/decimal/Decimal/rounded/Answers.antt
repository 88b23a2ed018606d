use Rattle.std.proofs.Common.{rules, ap, ◌∙◌}
use mir.Val.{bool_byte}
use Rattle.liquid_filters.proofs.Roundings.{rounded_is, rounded_none}
use Rattle.liquid_filters.proofs.stdlib.filters.math.decimal.Decimal.rounded.Goals as goal

pub returns-in-Some : goal.returns-in-Some
returns-in-Some c = rounded_is c.args.how c.args.self.negative c.args.self.whole.now c.args.self.fraction.now c.in-Some.size c.from-more.result _ (search rules) c.in-Some.ensures.0 (c.from-more.ensures ∙ ap bool_byte c.goes_away.ensures) c.signed.ensures

pub returns-in-None : goal.returns-in-None
returns-in-None c = rounded_none c.args.how c.args.self.negative c.args.self.whole.now c.args.self.fraction.now (search rules) c.in-None.ensures
