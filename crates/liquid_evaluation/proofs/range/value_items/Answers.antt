use Rattle.liquid_evaluation.proofs.RangeParts.{borrowed_items}
use Rattle.liquid_evaluation.proofs.range.value_items.Goals as goal

pub returns-in-Array : goal.returns-in-Array
returns-in-Array c = borrowed_items c.borrowed_values.result c.args.value.now c.in-Array.items c.in-Array.is c.borrowed_values.ensures
