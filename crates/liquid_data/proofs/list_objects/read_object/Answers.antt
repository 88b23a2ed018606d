use Rattle.std.proofs.Common.{ap, drop, length, rules, sym, ◌≡◌, ◌∙◌}
use Rattle.liquid_data.proofs.WholeObjects.{last_part, one_part, tail}
use Rattle.liquid_data.specs.Braces.{after_all}
use Rattle.liquid_data.proofs.list_objects.read_object.Goals as goal

pub returns-then-is_closed : goal.returns-then-is_closed
returns-then-is_closed g c =
    let len : c.len-start.result ≡ length c.loop.object.items = search rules in
    last_part _ _ _ _ _ c.len-start.result _ _ c.loop.invariant c.in_ok-read_until.ensures.bytes c.in_ok-read_until.ensures.rest len
    (c.after_all-braces.ensures ∙ ap (after_all c.loop.braces) (tail c.len-start.result c.as_slice.result.now ∙ ap (drop c.len-start.result) c.as_slice.ensures.value))
    (sym c.is_closed.ensures ∙ c.if-is_closed.true)

pub loop-preserved : goal.loop-preserved
loop-preserved g c =
    let len : c.len-start.result ≡ length c.loop.object.items = search rules in
    one_part _ _ _ _ _ c.len-start.result _ _ c.loop.invariant c.in_ok-read_until.ensures.bytes c.in_ok-read_until.ensures.rest len
    (c.after_all-braces.ensures ∙ ap (after_all c.loop.braces) (tail c.len-start.result c.as_slice.result.now ∙ ap (drop c.len-start.result) c.as_slice.ensures.value))
    (sym c.is_closed.ensures ∙ c.if-is_closed.false)
