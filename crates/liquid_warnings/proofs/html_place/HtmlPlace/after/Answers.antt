use Rattle.std.proofs.Common.{◌∙◌, sym}
use Rattle.liquid_warnings.proofs.HtmlPlaces.{place_turn, place_end, rest_utf8}
use Rattle.liquid_warnings.proofs.html_place.HtmlPlace.after.Goals as goal

pub loop-letter-preserved : goal.loop-letter-preserved
loop-letter-preserved c = (
  rest_utf8 _ _ c.in-Some.letter c.in-Some.ensures.steps.0 c.loop-letter.invariant.0,
  c.loop-letter.invariant.1
      ∙ place_turn c.loop-letter.place _ _ _ c.in-Some.letter c.in-Some.ensures.steps.0 c.loop-letter.invariant.0 c.next_place-place.ensures,
)

pub returns : goal.returns
returns c = sym (c.loop-letter.invariant.1 ∙ place_end c.loop-letter.place _ c.in_default.ensures.steps.0.0)
