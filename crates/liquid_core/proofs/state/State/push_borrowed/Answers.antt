use Rattle.std.proofs.Common.{refl}
use Rattle.liquid_core.specs.declared.frame.Scope.TheVariants.{Borrowed}
use Rattle.liquid_core.proofs.States.{pushed_turn}
use Rattle.liquid_core.proofs.state.State.push_borrowed.Goals as goal

pub returns-clause-pushed : goal.returns-clause-pushed
returns-clause-pushed c = pushed_turn c.args.self.now _ (Borrowed c.args.name c.args.value) c.in_ok-push.ensures.items refl refl refl refl refl refl refl refl
