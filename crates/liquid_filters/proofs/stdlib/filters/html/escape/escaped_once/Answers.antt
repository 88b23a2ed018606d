use Rattle.std.proofs.Common.{refl, rules}
use Rattle.liquid_filters.specs.Escapes.{escape_of}
use Rattle.liquid_filters.proofs.Escapes.{once_turn, once_end, some_of}
use Rattle.liquid_filters.proofs.stdlib.filters.html.escape.escaped_once.Goals as goal

pub loop-plain-preserved : goal.loop-plain-preserved
loop-plain-preserved c =
    let b = c.in-Some.mark in
    let made = some_of b (escape_of b) refl c.in-Some.ensures.mark c.mark_before.ensures in
    (search rules, once_turn c.loop-plain.rest.now c.in-Some.plain.now c.in-Some.after.now _ _ _ c.mark_before.result.now _ b c.in-Some.ensures.splits c.in-Some.ensures.plain made c.in_ok-push_str.ensures.bytes c.in_ok-push_str-2.ensures.bytes c.loop-plain.invariant.1)

pub returns : goal.returns
returns c = once_end c.loop-plain.rest.now _ _ _ c.in_default.ensures.none c.in_ok-push_str-3.ensures.bytes c.loop-plain.invariant.1
