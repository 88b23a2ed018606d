use Rattle.std.proofs.Common.{◌<◌, rules, refl}
use Rattle.std.specs.Prelude.{vec_len}
use Rattle.liquid_parser.proofs.Arms.{arm_ended}
use Rattle.liquid_parser.proofs.body_ends.end_last_arm.Goals as goal

pub returns-in-Some-clause-values : goal.returns-in-Some-clause-values
returns-in-Some-clause-values c =
    let arms = c.args.arms.now in
    let some : 0 < vec_len arms = search rules in
    (arm_ended arms.items c.in-Some.arm.now (record { values = c.in-Some.arm.now.values; end = c.args.end }) (vec_len arms) arms.ok.0 some c.in-Some.ensures.value refl).0

pub returns-in-Some-clause-ends : goal.returns-in-Some-clause-ends
returns-in-Some-clause-ends c =
    let arms = c.args.arms.now in
    let some : 0 < vec_len arms = search rules in
    (arm_ended arms.items c.in-Some.arm.now (record { values = c.in-Some.arm.now.values; end = c.args.end }) (vec_len arms) arms.ok.0 some c.in-Some.ensures.value refl).1
