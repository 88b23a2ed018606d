use Rattle.liquid_commands.proofs.Turns.{shown_turn, shown_end}
use Rattle.liquid_commands.proofs.escaped.push_escaped.Goals as goal

pub loop-letter-preserved : goal.loop-letter-preserved
loop-letter-preserved c =
    shown_turn c.args.place c.loop-letter.rest.rest.now _ _ _ _ c.in-Some.letter c.in-Some.ensures.steps.0 c.in_ok-push_shown.ensures c.loop-letter.invariant

pub returns : goal.returns
returns c = shown_end c.args.place c.loop-letter.rest.rest.now _ _ c.in_default.ensures.steps.0.0 c.loop-letter.invariant.1
