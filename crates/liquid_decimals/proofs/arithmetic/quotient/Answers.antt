use Rattle.std.proofs.Common.{◌≡◌, ◌+◌, ◌-◌, ◌*◌, ◌^◌, ap, ◌∙◌, unsigned_abs, arith, rules}
use Rattle.std.proofs.lemmas.Nat.{mul-le}
use Rattle.liquid_filters.proofs.Roundings.{pow_pos10}
use Rattle.liquid_decimals.specs.Decimals.{have_unlike_signs}
use Rattle.liquid_decimals.proofs.Beyond.{faulted, large_quotient, not_below, size_positive}
use Rattle.liquid_decimals.proofs.arithmetic.quotient.Goals as goal

pub nearest-requires-clause-nonzero : goal.nearest-requires-clause-nonzero
nearest-requires-clause-nonzero c =
    let size : c.unsigned_abs.result ≡ unsigned_abs c.args.b.units = search rules in
    let positive = size_positive c.args.b.units c.requires.nonzero in
    let power = pow_pos10 (c.saturating_sub.result) in
    mul-le 1 1 c.from.result c.wide_power.result (omega (arith, positive, size, c.from.ensures)) (omega (arith, power, c.wide_power.ensures.value))

pub returns-in-None : goal.returns-in-None
returns-in-None c =
    let a = c.args.a in
    let b = c.args.b in
    let left : c.unsigned_abs-2.result ≡ unsigned_abs a.units = search rules in
    let right : c.unsigned_abs.result ≡ unsigned_abs b.units = search rules in
    let more = b.places + c.args.places in
    let factor : c.wide_power-factor.result ≡ 10 ^ (more - a.places) = search rules in
    let product : c.from-2.result * c.wide_power-factor.result ≡ unsigned_abs a.units * 10 ^ (more - a.places) =
    ap (λ n. n * c.wide_power-factor.result) (c.from-2.ensures ∙ left) ∙ ap (λ n. unsigned_abs a.units * n) factor in
    let large = not_below _ _ (2 ^ 128) (λ h. c.in-None.ensures h) product in
    faulted _ _ c.beyond.ensures
    (large_quotient (have_unlike_signs a.units b.units) (unsigned_abs a.units) (unsigned_abs b.units) c.args.places more a.places
    (omega (arith, left, c.unsigned_abs-2.ensures.bound)) (omega (arith, right, c.unsigned_abs.ensures.bound)) (size_positive b.units c.requires.nonzero) large)
