use Rattle.liquid_filters.proofs.TextReplaced.{replaced_is}
use Rattle.liquid_filters.proofs.stdlib.filters.string.operate.replaced.Goals as goal

pub returns : goal.returns
returns c = let found = c.in_ok-replace.ensures.ok in replaced_is c.args.replacement.now found.0 c.args.search c.args.text.now _ c.utf8.text found.1
