use Rattle.std.proofs.Common.{sym, ◌∙◌}
use Rattle.liquid_model.specs.View.{view}
use Rattle.liquid_core.proofs.LoopFrames.{borrowed_name_found, borrowed_name_missing}
use Rattle.liquid_core.proofs.States.{held_at}
use Rattle.liquid_core.proofs.frame.Scope.direct_value.Goals as goal

pub returns-in-Some : goal.returns-in-Some
returns-in-Some c local = rw c.in-Names.is (c.in-Some.ensures ∙ sym (held_at c.in-Names.object c.args.name.now))

pub returns-in-None : goal.returns-in-None
returns-in-None c local = rw c.in-Names.is (c.in-None.ensures ∙ sym (held_at c.in-Names.object c.args.name.now))

pub returns-then-eq : goal.returns-then-eq
returns-then-eq c local = rw c.in-Borrowed.is (sym (borrowed_name_found c.in-Borrowed.bound_name.now c.args.name.now (view c.in-Borrowed.value.now) (sym c.if-eq.ensures)))

pub returns-else-eq : goal.returns-else-eq
returns-else-eq c local = rw c.in-Borrowed.is (sym (borrowed_name_missing c.in-Borrowed.bound_name.now c.args.name.now (view c.in-Borrowed.value.now) (sym c.if-eq.ensures)))
