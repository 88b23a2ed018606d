use Rattle.std.proofs.Common.{◌≡◌, suc, ◌+◌, ◌-◌, ◌/◌, ◌%◌, ◌^◌, ap, ◌∙◌, arith}
use Rattle.std.proofs.lemmas.Bool.Decides.{nat_tests}
use Rattle.liquid_decimals.proofs.Fractions.{fraction_turn}
use Rattle.liquid_decimals.proofs.writing.push_fraction.Goals as goal

pub loop-left-preserved : goal.loop-left-preserved
loop-left-preserved c =
    let rest = c.loop-left.left - 1 in
    let more : c.loop-left.left ≡ suc rest = grind (arith, nat_tests) in
    let digit : c.from.result ≡ 48 + c.args.number / 10 ^ rest % 10 = c.from.ensures ∙ ap (λ p. 48 + c.args.number / p % 10) c.power.ensures.value in
    (omega (arith, c.loop-left.invariant.0), fraction_turn _ _ _ c.loop-left.left rest c.args.number c.from.result more digit c.in_ok-push.ensures.bytes c.loop-left.invariant.1)
