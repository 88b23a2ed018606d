use Rattle.liquid_check.proofs.Blanks.{blanked_turn, blanked_end}
use Rattle.liquid_check.proofs.faulty_piece.blanked.Goals as goal

pub loop-letter-preserved : goal.loop-letter-preserved
loop-letter-preserved c =
    blanked_turn c.loop-letter.rest.rest.now _ _ _ _ c.in-Some.letter _ c.in-Some.ensures.steps.0 c.blank_for.ensures c.in_ok-push.ensures.bytes c.loop-letter.invariant

pub returns : goal.returns
returns c = blanked_end c.loop-letter.rest.rest.now _ _ c.in_default.ensures.steps.0.0 c.loop-letter.invariant.1
