use Rattle.std.proofs.Common.{rules, ◌≡◌}
use Rattle.liquid_model.specs.Order.{same}
use Rattle.liquid_model.specs.OrderLaws.{same_Decides}
use Rattle.liquid_model.specs.View.{view}
use Rattle.liquid_model.proofs.order.ValuePartialEq.eq.Goals as goal

pub returns-clause-tree : goal.returns-clause-tree
returns-clause-tree c =
    let is : c.eq.result ≡ same (view c.args.self.now) (view c.args.other.now) = search rules in
    rw is (same_Decides (view c.args.self.now) (view c.args.other.now))
