use Rattle.std.proofs.Common.{refl, rules, ap, ◌∙◌}
use Rattle.std.proofs.lemmas.List.{nil_from_length}
use Rattle.liquid_core.specs.States.{layers_of}
use Rattle.liquid_core.specs.declared.frame.Scope.TheVariants.{Names}
use Rattle.liquid_core.proofs.States.{pushed_scope, pushed_turn}
use Rattle.liquid_core.proofs.state.State.push_scope.Goals.{then-is_empty+in_ok-push, else-is_empty+in_ok-push-2}
use Rattle.liquid_core.proofs.state.State.push_scope.Goals as goal

pub returns-clause-pushed : goal.returns-clause-pushed
returns-clause-pushed c =
    elim c.if-is_empty.branch [
      | then-is_empty+in_ok-push w ↦ ap layers_of w.self-is ∙ pushed_scope c.args.self.now _ c.args.scope (nil_from_length _ (search rules)) refl w.in_ok-push.ensures.items refl refl refl refl refl refl refl
      | else-is_empty+in_ok-push-2 w ↦ ap layers_of w.self-is ∙ pushed_turn c.args.self.now _ (Names c.args.scope) w.in_ok-push-2.ensures.items refl refl refl refl refl refl refl refl
    ]
