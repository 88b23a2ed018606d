use Rattle.std.proofs.Common.{◌≡◌, ◌-◌, length, length-append, subst, ap, arith}
use Rattle.std.proofs.lemmas.Str.{IsCharBoundary-at_seam}
use Rattle.std.specs.Str.{IsCharBoundary}
use Rattle.liquid_filters.proofs.text_parts.before.Goals as goal

pub range-requires-clause-end_boundary : goal.range-requires-clause-end_boundary
range-requires-clause-end_boundary c =
    let front = c.requires.0 in
    let place : length front ≡ length c.args.text.now - length c.args.end.now = omega (arith, ap length c.requires.1, length-append front c.args.end.now) in
    subst (λ i. IsCharBoundary c.args.text.now i) place (IsCharBoundary-at_seam c.args.text.now front c.args.end.now c.requires.1 c.utf8.end)
