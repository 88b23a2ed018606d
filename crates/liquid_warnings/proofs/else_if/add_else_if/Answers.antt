use Rattle.std.proofs.Common.{codes}
use Rattle.std.proofs.lemmas.Result.{on_ok_weaker}
use Rattle.liquid_warnings.specs.Messages.{else_if_message}
use Rattle.liquid_warnings.proofs.AddedRemarks.{adds_at_each}
use Rattle.liquid_warnings.proofs.else_if.add_else_if.Goals as goal

pub returns-clause-added : goal.returns-clause-added
returns-clause-added c = on_ok_weaker c.add_at_each.result (adds_at_each (codes "ElseIf") else_if_message _ _ _) c.add_at_each.ensures.added
