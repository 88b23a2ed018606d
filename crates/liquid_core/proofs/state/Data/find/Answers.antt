use Rattle.std.proofs.Common.{sym, ◌∙◌}
use Rattle.liquid_core.proofs.States.{held_at}
use Rattle.liquid_core.proofs.state.Data.find.Goals as goal

pub returns-in-Some-clause-value : goal.returns-in-Some-clause-value
returns-in-Some-clause-value c = rw c.in-Own.is (c.in-Some.ensures ∙ sym (held_at c.in-Own.object c.args.name.now))

pub returns-in-None-clause-value : goal.returns-in-None-clause-value
returns-in-None-clause-value c = rw c.in-Own.is (c.in-None.ensures ∙ sym (held_at c.in-Own.object c.args.name.now))

pub returns-in-Some-look_up-clause-value : goal.returns-in-Some-look_up-clause-value
returns-in-Some-look_up-clause-value c = rw c.in-Borrowed.is (c.in-Some-look_up.ensures ∙ sym (held_at c.in-Borrowed.object.now c.args.name.now))

pub returns-in-None-look_up-clause-value : goal.returns-in-None-look_up-clause-value
returns-in-None-look_up-clause-value c = rw c.in-Borrowed.is (c.in-None-look_up.ensures ∙ sym (held_at c.in-Borrowed.object.now c.args.name.now))
