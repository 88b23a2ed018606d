-- Reading with a stack of open blocks, piece after piece.
use Rattle.std.specs.Prelude.{ℕ, suc, List, [], ◌∷◌, Bool, true, false, cond, nat_lt, Option, Some}
use Rattle.std.specs.Prelude.{None, option_and_then, option_map}
use Rattle.liquid_core.specs.Expression.{Expression}
use Rattle.liquid_evaluation.specs.Tree.{Node, Nodes, no_nodes, node, Whens, no_whens, when}
use Rattle.liquid_parser.specs.Nesting.{Opening, of_one, of_two, of_many, Statement, leaf, closed}
use Rattle.liquid_parser.specs.Nesting.{begins, elsif, arm, otherwise, ends, refused}
use Rattle.liquid_language.specs.declared.block.Block.{Block}
use Rattle.liquid_language.specs.declared.block.BlockContext.{BlockContext}
use Rattle.liquid_language.specs.declared.block.BlockContext.TheVariants.{Outside, InBody, InLast}

-- one list of nodes after another
abbrev pub append : Nodes → Nodes → Nodes
append no_nodes g = g
append (node n f) g = node n (append f g)

abbrev pub with_node : Nodes → Node → Nodes
with_node f n = append f (node n no_nodes)

-- the body that is being read, and the node that its block makes of it and of what may follow
pub data Reading : Type 0 where
  last : Block → (Nodes → Node) → Reading  -- the last body
  first : Block → (Nodes → Nodes → Node) → Reading  -- a first body, before the else list
  -- what stands before the first `when` or `else`
  case_head : Block → (Whens → Nodes → Node) → Reading
  -- the body of a `when`, before further ones and the else list
  when_body : Block → (Nodes → Whens → Nodes → Node) → Reading

abbrev pub begun : Opening → Reading
begun (of_one b make) = last b make
begun (of_two b make) = first b make
begun (of_many b make) = case_head b make

abbrev pub context_in : Reading → BlockContext
context_in (last b make) = InLast b
context_in (first b make) = InBody b
context_in (case_head b make) = InBody b
context_in (when_body b make) = InBody b

-- the node, where the block ends after the nodes f
abbrev pub ended : Reading → Nodes → Node
ended (last b make) f = make f
ended (first b make) f = make f no_nodes
ended (case_head b make) f = make no_whens no_nodes
ended (when_body b make) f = make f no_whens no_nodes

-- where an `else` follows the nodes f
abbrev pub else_of : Reading → Nodes → Option Reading
else_of (last b make) f = None
else_of (first b make) f = Some (last b (make f))
else_of (case_head b make) f = Some (last b (make no_whens))
else_of (when_body b make) f = Some (last b (make f no_whens))

-- where a `when` follows the nodes f
abbrev pub when_of : List Expression → Reading → Nodes → Option Reading
when_of vs (last b make) f = None
when_of vs (first b make) f = None
when_of vs (case_head b make) f = Some (when_body b (λ g ws o. make (when vs g ws) o))
when_of vs (when_body b make) f = Some (when_body b (λ g ws o. make f (when vs g ws) o))

-- where an `elsif` follows the nodes f: the block goes on with its else list, in which
-- another begins
abbrev pub elsif_of : (Nodes → Nodes → Node) → Reading → Nodes → Option (Reading × Reading)
elsif_of next (last b make) f = None
elsif_of next (first b make) f = Some (last b (make f), first b next)
elsif_of next (case_head b make) f = None
elsif_of next (when_body b make) f = None

-- an open block: the body that is being read, the nodes before the block in its own list, and
-- whether an `elsif` opened it
pub data Level : Type 0 where
  level : Reading → Nodes → Bool → Level

abbrev pub context_of : List Level → BlockContext
context_of [] = Outside
context_of (level r f k ∷ ls) = context_in r

abbrev pub deeper : Bool → ℕ → ℕ
deeper true n = n
deeper false n = suc n

-- how deep the blocks nest: an `elsif` adds nothing
abbrev pub block_depth : List Level → ℕ
block_depth [] = 0
block_depth (level r f k ∷ ls) = deeper k (block_depth ls)

-- the open blocks, the innermost first, and the nodes since
abbrev pub State : Type 0
State = List Level × Nodes

-- a block has ended with the last of the nodes since; where an `elsif` opened it, so has the one
-- around it
abbrev pub close : Bool → List Level → Nodes → Option State
close false ls cur = Some (ls, cur)
close true [] cur = None
close true (level r f k ∷ ls) cur = close k ls (with_node f (ended r cur))

-- a block may stand here: it is no more than 200 deep
abbrev pub is_room : List Level → Bool
is_room ls = nat_lt (block_depth ls) 200

abbrev pub to_closed : Node → List Level → Nodes → Option State
to_closed n ls cur = cond (is_room ls) (Some (ls, with_node cur n)) None

abbrev pub to_begin : Opening → List Level → Nodes → Option State
to_begin o ls cur = cond (is_room ls) (Some (level (begun o) cur false ∷ ls, no_nodes)) None

abbrev pub to_else : List Level → Nodes → Option State
to_else [] cur = None
to_else (level r f k ∷ ls) cur = option_map (λ s. (level s f k ∷ ls, no_nodes)) (else_of r cur)

abbrev pub to_when : List Expression → List Level → Nodes → Option State
to_when vs [] cur = None
to_when vs (level r f k ∷ ls) cur = option_map (λ s. (level s f k ∷ ls, no_nodes))
    (when_of vs r cur)

abbrev pub to_elsif : (Nodes → Nodes → Node) → List Level → Nodes → Option State
to_elsif next [] cur = None
to_elsif next (level r f k ∷ ls) cur =
    option_map (λ s. (level s.1 no_nodes true ∷ level s.0 f k ∷ ls, no_nodes)) (elsif_of next r cur)

-- a piece changes the state
abbrev pub statement_step : Statement → List Level → Nodes → Option State
statement_step (leaf n) ls cur = Some (ls, with_node cur n)
statement_step (closed n) ls cur = to_closed n ls cur
statement_step (begins o) ls cur = to_begin o ls cur
statement_step (elsif next) ls cur = to_elsif next ls cur
statement_step (arm vs) ls cur = to_when vs ls cur
statement_step otherwise ls cur = to_else ls cur
statement_step ends ls cur = close true ls cur
statement_step refused ls cur = None

-- at the end of the source no block is open
abbrev pub at_end : List Level → Nodes → Option Nodes
at_end [] cur = Some cur
at_end (l ∷ ls) cur = None

abbrev pub go : (List Level → Nodes → Option Nodes) → Option State → Option Nodes
go more s = option_and_then (λ s. more s.0 s.1) s

module _ {P : Type 0} (reads : BlockContext → P → Statement) where
  abbrev pub read_pieces : List P → List Level → Nodes → Option Nodes
  read_pieces [] ls cur = at_end ls cur
  read_pieces (p ∷ ps) ls cur = go (read_pieces ps)
      (statement_step (reads (context_of ls) p) ls cur)
