use Rattle.liquid_answers.specs.inside.Listed.{AreListed}
use Rattle.liquid_answers.proofs.lacking.list_lacking.Given as goal

abbrev pub invariant-loop-call : goal.invariant-loop-call
invariant-loop-call l = AreListed l.table l.listed
