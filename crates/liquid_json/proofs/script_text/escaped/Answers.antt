use Rattle.std.proofs.Common.{◌++◌, ◌∙◌, rules, ap, string_bytes}
use Rattle.liquid_json.proofs.ScriptMarks.{escaped_turn, escaped_end}
use Rattle.liquid_json.proofs.script_text.escaped.Goals as goal

pub loop-plain-preserved : goal.loop-plain-preserved
loop-plain-preserved c =
    (search rules, escaped_turn c.loop-plain.rest.now c.in-Some.plain.now c.in-Some.after.now _ _ _ _ c.in-Some.mark c.in-Some.ensures.splits c.in-Some.ensures.plain c.in-Some.ensures.mark c.in_ok-push_str.ensures.bytes (c.in_ok-push_str-2.ensures.bytes ∙ ap (λ t. string_bytes c.push_str.new.self ++ t) c.escape_of.ensures) c.loop-plain.invariant.1)

pub returns : goal.returns
returns c = escaped_end c.loop-plain.rest.now _ _ _ c.in_default.ensures.none c.in_ok-push_str-3.ensures.bytes c.loop-plain.invariant.1
