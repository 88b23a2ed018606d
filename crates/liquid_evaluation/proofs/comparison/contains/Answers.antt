use Rattle.liquid_evaluation.proofs.Contains.{item_held}
use Rattle.liquid_evaluation.proofs.comparison.contains.Goals as goal

pub returns-in-Array : goal.returns-in-Array
returns-in-Array c = item_held c.args.missing c.contains.result c.args.left.now c.args.right.now c.in-Array.items c.deref.result.now c.in-Array.is c.deref.ensures.value c.contains.ensures.value
