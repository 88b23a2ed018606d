use Rattle.std.proofs.lemmas.Str.Pattern.{contains_text}
use Rattle.liquid_evaluation.proofs.Contains.{occurs}
use Rattle.liquid_evaluation.proofs.comparison.occurs.Goals as goal

pub returns : goal.returns
returns c = occurs c.contains.result c.args.part.now c.args.text.now (contains_text c.contains.result c.args.part.now c.args.text.now c.contains.ensures.cases)
