use Rattle.std.proofs.Common.{refl}
use Rattle.liquid_core.specs.declared.frame.Scope.TheVariants.{LoopFrame}
use Rattle.liquid_core.proofs.States.{pushed_turn}
use Rattle.liquid_core.proofs.state.State.push_frame.Goals as goal

pub returns-clause-pushed : goal.returns-clause-pushed
returns-clause-pushed c = pushed_turn c.args.self.now _ (LoopFrame c.args.frame) c.in_ok-push.ensures.items refl refl refl refl refl refl refl refl
