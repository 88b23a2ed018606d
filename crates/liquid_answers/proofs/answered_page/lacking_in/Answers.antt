use Rattle.std.proofs.Common.{◌<◌, length}
use Rattle.liquid_answers.proofs.Listed.{not_none}
use Rattle.liquid_answers.proofs.answered_page.lacking_in.Goals as goal

pub returns-clause-lacking : goal.returns-clause-lacking
returns-clause-lacking c =
    let some : 0 < length c.in_ok-listed.listed.calls.items = not_none _ c.is_empty.result c.is_empty.ensures c.if-is_empty.false in
    c.in_ok-lacking_of.ensures.lacking c.args.table.now c.in_ok-listed.ensures.listed some
