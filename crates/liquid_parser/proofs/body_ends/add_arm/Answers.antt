use Rattle.std.proofs.Common.{sym, subst, refl}
use Rattle.liquid_core.specs.ExpressionView.{expression_view}
use Rattle.liquid_parser.specs.inside.Building.{IsAdded}
use Rattle.liquid_syntax.specs.Flats.{arm_ends, arm_values, case_flat, flat_of, values_in}
use Rattle.liquid_syntax.specs.declared.node.Arm.{Arm}
use Rattle.liquid_syntax.specs.declared.node.Node.{Node}
use Rattle.liquid_parser.proofs.Arms.{arm_added, no_case}
use Rattle.liquid_parser.proofs.body_ends.add_arm.Goals as goal

pub returns-in_ok-push-in-Case-clause-added : goal.returns-in_ok-push-in-Case-clause-added
returns-in_ok-push-in-Case-clause-added c =
    let i = c.in-Case in
    let a : Arm = record { values = c.args.values; end = 0 } in
    let new = c.push.new.self.items in
    subst (λ (n : Node). IsAdded (values_in a) (flat_of n) (case_flat (expression_view i.field-0) (arm_values new) (arm_ends new) i.field-2)) (sym i.is)
    (arm_added (expression_view i.field-0) i.arms.items new a i.field-2 c.in_ok-push-in-Case.ensures.items refl)

pub returns-in_default : goal.returns-in_default
returns-in_default c = record {
  added = λ t vss es z count h. absurd (no_case c.args.node.now (λ target arms end e. c.in_default.not-Case target arms end e) t vss es z h);
  fails = tt;
}
