use Rattle.std.proofs.Common.{ap}
use Rattle.liquid_syntax.specs.Reached.{had, partials_settled}
use Rattle.liquid_syntax.specs.Templates.{partials_of}
use Rattle.liquid_syntax.proofs.reach.Reach.of.Goals as goal

pub invariant_of-result : goal.invariant_of-result
invariant_of-result c =
    let v = c.add_calls.new.self in
    let found = had (partials_of c.new.result) in
    record { own = c.in_ok-add_calls.ensures.settled found; others = ap (partials_settled v found) c.new.ensures }
