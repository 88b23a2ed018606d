use Rattle.liquid_filters.proofs.TextReplaced.{replaced_first_is}
use Rattle.liquid_filters.proofs.stdlib.filters.string.operate.replaced_first.Goals as goal

pub returns : goal.returns
returns c = replaced_first_is c.args.replacement.now c.args.search c.args.text.now _ c.in_ok-replacen.ensures.ok
