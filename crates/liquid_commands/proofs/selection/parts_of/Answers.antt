use Rattle.std.proofs.Common.{◌≡◌, Some}
use Rattle.liquid_commands.proofs.PathParts.{path_turn}
use Rattle.liquid_commands.proofs.selection.parts_of.Goals as goal

pub loop-left-preserved : goal.loop-left-preserved
loop-left-preserved c =
    let e : c.loop-left.left ≡ Some c.in-Some.text = (let h = c.in-Some.is in cc) in
    path_turn c.loop-left.parts.items c.push.new.self.items c.loop-left.left c.in-Some.text c.first_part.result _ e c.first_part.ensures c.in_ok-push.ensures.items c.loop-left.invariant
