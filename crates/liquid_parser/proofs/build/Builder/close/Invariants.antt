use Rattle.std.proofs.Common.{◌≡◌, List, true, length}
use Rattle.liquid_evaluation.specs.Tree.{Nodes}
use Rattle.liquid_parser.specs.OpenBlocks.{Level, deeper, block_depth, close}
use Rattle.liquid_parser.specs.inside.Building.{IsStack}
use Rattle.liquid_parser.proofs.build.Builder.close.Given as goal

abbrev pub invariant-chain : goal.invariant-chain
invariant-chain l =
    ((ls : List Level) (cur : Nodes) → IsStack l.initial.self ls cur
    → (ms : List Level) × (now : Nodes) × IsStack l.self ms now × (close true ls cur ≡ close l.chained ms now) × (block_depth ls ≡ deeper l.chained (block_depth ms)))
    × (l.self.depth ≡ l.initial.self.depth)

abbrev pub decreases-chain : goal.decreases-chain
decreases-chain l = length l.self.blocks.items
