use Rattle.liquid_filters.specs.Slugs.{keeps}
use Rattle.liquid_filters.proofs.Slugs.{hyphened_turn, hyphened_end}
use Rattle.liquid_filters.proofs.jekyll.slugify.hyphened.Goals as goal

pub loop-letter-preserved : goal.loop-letter-preserved
loop-letter-preserved c =
    hyphened_turn (keeps c.args.mode) c.loop-letter.after _ c.loop-letter.rest.rest.now _ _ _ _ c.in-Some.letter c.in-Some.ensures.steps.0 c.keeps-kept.ensures c.in_ok-push_shown.ensures c.loop-letter.invariant

pub returns : goal.returns
returns c = hyphened_end (keeps c.args.mode) c.loop-letter.after c.loop-letter.rest.rest.now _ _ c.in_default.ensures.steps.0.0 c.loop-letter.invariant.1
