use Rattle.std.proofs.Common.{◌≡◌, true, sym, ◌∙◌, subst, rules}
use Rattle.liquid_syntax.specs.Flats.{arm_ends}
use Rattle.liquid_syntax.specs.declared.node.Node.TheVariants.{Case}
use Rattle.liquid_uses.specs.inside.Scopes.{end_at, ends_after, ends_at}
use Rattle.liquid_uses.proofs.Scoping.{case_ends}
use Rattle.liquid_uses.proofs.scoped.ends_after.Goals as goal

pub returns-then-arms_end : goal.returns-then-arms_end
returns-then-arms_end c = λ h.
    let A = c.args.scopes.ends.now in
    let is : c.args.node.now ≡ Case c.in-Case.field-0 c.in-Case.arms c.in-Case.last = search rules in
    let bodies = rw c.deref.ensures.value at (c.arms_end.ensures c.if-arms_end.true) in
    let last = subst (λ e. ends_at A c.in-Case.last e ≡ true) c.end_at-end.ensures (sym c.ends_at-then-arms_end.ensures ∙ h) in
    subst (λ n. ends_after A c.args.at c.args.next n ≡ true) (sym is) (case_ends A c.args.next c.in-Case.last (end_at A c.args.at) (arm_ends c.in-Case.arms.items) bodies last)
