use Rattle.std.proofs.Common.{sym, ◌∙◌}
use Rattle.liquid_model.specs.View.{view}
use Rattle.liquid_core.proofs.LoopFrames.{borrowed_name_found, borrowed_name_missing}
use Rattle.liquid_core.proofs.States.{held_at}
use Rattle.liquid_core.proofs.frame.Scope.find.Goals as goal

pub returns-in-Some-clause-value : goal.returns-in-Some-clause-value
returns-in-Some-clause-value c = rw c.in-Names.is (c.in-Some.ensures ∙ sym (held_at c.in-Names.object c.args.name.now))

pub returns-in-None-clause-value : goal.returns-in-None-clause-value
returns-in-None-clause-value c = rw c.in-Names.is (c.in-None.ensures ∙ sym (held_at c.in-Names.object c.args.name.now))

pub returns-then-eq-clause-value : goal.returns-then-eq-clause-value
returns-then-eq-clause-value c = rw c.in-Borrowed.is (sym (borrowed_name_found c.in-Borrowed.bound_name.now c.args.name.now (view c.in-Borrowed.value.now) (sym c.if-eq.ensures)))

pub returns-else-eq-clause-value : goal.returns-else-eq-clause-value
returns-else-eq-clause-value c = rw c.in-Borrowed.is (sym (borrowed_name_missing c.in-Borrowed.bound_name.now c.args.name.now (view c.in-Borrowed.value.now) (sym c.if-eq.ensures)))
