use Rattle.std.proofs.Common.{◌-◌, ◌≡◌, ◌≤◌, length}
use Rattle.liquid_syntax.specs.Flats.{flats}
use Rattle.liquid_syntax.specs.Forest.{Forest}
use Rattle.liquid_syntax.specs.Laid.{IsLaidOut}
use Rattle.liquid_syntax.specs.declared.node.Node.{Node}
use Rattle.liquid_syntax.specs.inside.BlankNodes.{AreSameOutside, IsOwnRange, own_flats, tidied_all}
use Rattle.liquid_syntax.proofs.Tidied.{Agree}
use Rattle.liquid_syntax.proofs.blanks.+empty_blanks.Given as goal

abbrev pub decreases-empty_blanks : goal.decreases-empty_blanks
decreases-empty_blanks l = l.to - l.from

-- what is left stands as it did, and makes the whole with what is done
abbrev pub invariant-loop-at : goal.invariant-loop-at
invariant-loop-at l =
    record {
      begun : l.from ≤ l.at;
      left : IsOwnRange l.initial.nodes l.at l.to;
      whole : (f : Forest Node) → IsLaidOut (own_flats l.initial.nodes) l.from f l.to → (g : Forest Node) × IsLaidOut (own_flats l.initial.nodes) l.at g l.to
          × ((ms : _) → Agree (flats l.nodes) ms l.from l.at → IsLaidOut ms l.at (tidied_all l.in_silence l.with_elsif g) l.to → IsLaidOut ms l.from (tidied_all l.in_silence l.with_elsif f) l.to);
      same : AreSameOutside l.from l.at l.initial.nodes l.nodes;
      long : length l.nodes ≡ length l.initial.nodes;
    }

abbrev pub decreases-loop-at : goal.decreases-loop-at
decreases-loop-at l = l.to - l.at
