use Rattle.std.proofs.Common.{◌≡◌, ◌-◌, ◌<◌, length, get_or, ap, ◌∙◌, arith}
use Rattle.liquid_decimals.proofs.Grouping.{grouped_turn, grouped_end}
use Rattle.liquid_decimals.proofs.groups.push_grouped.Goals as goal

pub loop-place-preserved : goal.loop-place-preserved
loop-place-preserved c =
    let ds = c.args.digits.now in
    let i = c.loop-place.place in
    let within : i < length ds = omega (arith, c.as_bytes-bytes.ensures.len) in
    let same : c.from.result ≡ get_or ds i 0 =
    c.from.ensures ∙ ap (λ bs. get_or bs i 0) c.as_bytes-bytes.ensures.value in
    let low : c.from.result < 128 = omega (arith, same, c.requires i) in
    grouped_turn c.args.separator.now ds _ _ _ _ i c.from.result
    (length c.as_bytes-bytes.result.now - i - 1) within same low
    (omega (arith, c.as_bytes-bytes.ensures.len)) c.in_ok-push.ensures.bytes c.in_ok-push_separator.ensures
    c.loop-place.invariant

pub returns : goal.returns
returns c =
    grouped_end c.args.separator.now c.args.digits.now _ _ c.loop-place.place
    (omega (arith, c.as_bytes-bytes.ensures.len)) c.loop-place.invariant
