use Rattle.std.proofs.Common.{◌-◌, ◌≡◌, ◌≤◌}
use Rattle.liquid_syntax.specs.Forest.{Forest}
use Rattle.liquid_syntax.specs.Laid.{IsLaidOut}
use Rattle.liquid_syntax.specs.declared.node.Node.{Node}
use Rattle.liquid_syntax.specs.inside.BlankNodes.{IsOwnRange, own_flats, quiet}
use Rattle.liquid_syntax.proofs.blanks.+is_quiet.Given as goal

abbrev pub decreases-is_quiet : goal.decreases-is_quiet
decreases-is_quiet l = l.to - l.from

-- all nodes of the range write nothing where those that are left do
abbrev pub invariant-loop-at : goal.invariant-loop-at
invariant-loop-at l =
    record {
      begun : l.from ≤ l.at;
      left : IsOwnRange l.nodes l.at l.to;
      whole : (f : Forest Node) → IsLaidOut (own_flats l.nodes) l.from f l.to → (g : Forest Node) × IsLaidOut (own_flats l.nodes) l.at g l.to × (quiet f ≡ quiet g);
    }

abbrev pub decreases-loop-at : goal.decreases-loop-at
decreases-loop-at l = l.to - l.at
