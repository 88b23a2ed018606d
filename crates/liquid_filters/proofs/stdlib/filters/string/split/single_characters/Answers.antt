use Rattle.std.proofs.Common.{◌∙◌, ap, ◌++◌}
use Rattle.std.specs.Char.{encode_utf8}
use Rattle.liquid_filters.proofs.Splits.{characters_turn, characters_end}
use Rattle.liquid_filters.proofs.stdlib.filters.string.split.single_characters.Goals as goal

pub loop-letter-preserved : goal.loop-letter-preserved
loop-letter-preserved c =
    characters_turn _ _ _ _ _ c.push-in-Some.new.self c.in-Some.letter c.in-Some.ensures.steps.0 (c.in_ok-push-2.ensures.bytes ∙ ap (λ t. t ++ encode_utf8 c.in-Some.letter) c.new-piece.ensures.bytes) c.in_ok-push-3.ensures.items c.loop-letter.invariant

pub returns : goal.returns
returns c = characters_end c.loop-letter.rest.rest.now _ _ _ _ c.in_default.ensures.steps.0.0 c.new-2.ensures.bytes c.in_ok-push-4.ensures.items c.loop-letter.invariant.1
