use Rattle.std.proofs.Common.{ap, sym, is_some}
use Rattle.liquid_core.proofs.States.{assigned_set, none_assigned}
use Rattle.liquid_core.proofs.state.State.assign.Goals as goal

pub returns-in-Some-clause-set : goal.returns-in-Some-clause-set
returns-in-Some-clause-set c =
    let written = (c.get_mut.follows.holds c.args.value).3 (ap is_some (sym c.in-Some.ensures.value)) in
    assigned_set c.args.self.now (c.get_mut.follows.lender c.args.value) c.args.name.now c.args.value written

pub returns-in_err-from_str-in-None-clause-no_memory : goal.returns-in_err-from_str-in-None-clause-no_memory
returns-in_err-from_str-in-None-clause-no_memory c some = absurd (none_assigned c.args.self.now c.args.name.now c.in-None.ensures.value some)

pub returns-in_ok-from_str-in-None-clause-no_memory : goal.returns-in_ok-from_str-in-None-clause-no_memory
returns-in_ok-from_str-in-None-clause-no_memory c some = absurd (none_assigned c.args.self.now c.args.name.now c.in-None.ensures.value some)
