use Rattle.std.proofs.Common.{refl}
use Rattle.liquid_uses.proofs.Scoping.{visited, was_true}
use Rattle.liquid_uses.proofs.scopes.ReaderNameVisitor.visit.Goals as goal

pub returns : goal.returns
returns c = (refl, (λ e q m. visited c.args.self.now c.args.name.now q m (c.is_visible.ensures (was_true c.is_visible.result e))))
