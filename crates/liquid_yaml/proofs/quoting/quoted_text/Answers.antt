use Rattle.std.proofs.Common.{sym, ◌∙◌, string_bytes}
use Rattle.liquid_yaml.proofs.Escapes.{escape_end, escape_open, escape_refused, escape_turn}
use Rattle.liquid_yaml.proofs.quoting.quoted_text.Goals as goal

pub loop-letter-preserved : goal.loop-letter-preserved
loop-letter-preserved c =
    escape_turn c.args.quote c.loop-letter.place c.loop-letter.rest.rest.now _ (string_bytes c.loop-letter.read) (string_bytes c.push_letter.new.text) c.in-Some.letter c.in-Some-after.shown _
    c.in-Some.ensures.steps.0 c.in-Some-after.ensures c.in_ok-push_letter-in-Some-after.ensures c.loop-letter.invariant

pub returns-in-None : goal.returns-in-None
returns-in-None c =
    escape_refused c.args.quote c.loop-letter.place c.loop-letter.rest.rest.now _ (string_bytes c.loop-letter.read) c.in-Some.letter _
    c.in-Some.ensures.steps.0 c.in-None.ensures c.loop-letter.invariant

pub returns-then-is_outside : goal.returns-then-is_outside
returns-then-is_outside c =
    escape_end c.args.quote c.loop-letter.place c.loop-letter.rest.rest.now (string_bytes c.loop-letter.read) _
    c.in_default.ensures.steps.0.0 (sym c.if-is_outside.true ∙ c.is_outside.ensures) c.loop-letter.invariant.1

pub returns-else-is_outside : goal.returns-else-is_outside
returns-else-is_outside c =
    escape_open c.args.quote c.loop-letter.place c.loop-letter.rest.rest.now (string_bytes c.loop-letter.read) _
    c.in_default.ensures.steps.0.0 (sym c.if-is_outside.false ∙ c.is_outside.ensures) c.loop-letter.invariant.1
