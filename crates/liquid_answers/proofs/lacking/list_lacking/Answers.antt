use Rattle.liquid_answers.proofs.Listed.{listed_none}
use Rattle.liquid_answers.proofs.lacking.list_lacking.Goals as goal

pub loop-call-init : goal.loop-call-init
loop-call-init c = listed_none c.args.table.now c.in_ok-listed.listed c.in_ok-listed.ensures.listed
