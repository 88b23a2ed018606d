use Rattle.liquid_data.proofs.Snakes.{snake_end, snake_turn}
use Rattle.liquid_data.proofs.names.snake_words.Goals as goal

pub loop-letter-preserved : goal.loop-letter-preserved
loop-letter-preserved c =
    snake_turn c.loop-letter.place _ c.loop-letter.rest.rest.now _ _ _ _ c.in-Some.letter
    c.in-Some.ensures.steps.0 c.place_after-place.ensures c.in_ok-push_shown.ensures c.loop-letter.invariant

pub returns : goal.returns
returns c =
    snake_end c.loop-letter.place c.loop-letter.rest.rest.now _ _
    c.in_default.ensures.steps.0.0 c.loop-letter.invariant.1
