-- A list of nodes that is being built, with blocks that are still open.
use Rattle.std.specs.Prelude.{◌≡◌, ℕ, ◌+◌, List, [], ◌∷◌, ◌++◌, map, take, get_or, slice_set, Bool}
use Rattle.std.specs.Prelude.{true, false, nat_le, Option, Some, None, length, reverse, Result, Ok}
use Rattle.std.specs.Prelude.{Err}
use Rattle.liquid_syntax.specs.Flats.{Maker, case_flat, flat_of, flats, nodes_of, bodies_of}
use Rattle.liquid_syntax.specs.Forest.{Forest, Bodies, no_bodies, sizes}
use Rattle.liquid_syntax.specs.Laid.{Flat, ends_of, laid, laid_bodies}
use Rattle.liquid_parser.specs.Nesting as nesting
use Rattle.liquid_parser.specs.OpenBlocks.{Reading, last, first, case_head, when_body, begun, ended}
use Rattle.liquid_parser.specs.OpenBlocks.{Level, level, State, block_depth, to_elsif, with_node}
use Rattle.liquid_lexer.specs.Readers.{Fails}
use Rattle.liquid_syntax.specs.Templates.{tree_of}
use Rattle.liquid_evaluation.specs.Tree.{Node, Nodes, no_nodes, plain}
use Rattle.liquid_language.specs.declared.block.Block.{Block}
use Rattle.liquid_language.specs.declared.block.BlockContext.{BlockContext}
use Rattle.liquid_language.specs.declared.block.BlockContext.TheVariants.{Outside, InBody, InLast}
use Rattle.liquid_parser.specs.declared.build.Builder.{Builder}
use Rattle.liquid_parser.specs.declared.build.Statement.{Statement}
use Rattle.liquid_parser.specs.declared.build.Statement.TheVariants as statements
use Rattle.liquid_parser.specs.declared.build.Open.{Open}
use Rattle.liquid_parser.specs.declared.build.Stage.{Stage}
use Rattle.liquid_parser.specs.declared.build.Stage.TheVariants.{First, Last, CaseHead, WhenBody}
use Rattle.liquid_core.specs.Expression.{Expression}
use Rattle.liquid_core.specs.ExpressionView.{expression_view}
use Rattle.liquid_evaluation.specs.ChainView.{chain_filter_view}
use Rattle.liquid_evaluation.specs.Tree as tree
use Rattle.liquid_syntax.specs.declared.node.Node.TheVariants.{Case}
use Rattle.liquid_lexer.specs.declared.fault.ParseError.{ParseError}
use Rattle.liquid_lexer.specs.declared.fault.ParseError.TheVariants as errors
use Rattle.liquid_syntax.specs.declared.node.Node as code
use Rattle.liquid_syntax.specs.declared.template.Template.{Template}

-- ---- statements

-- what a node of the list makes of one body, and of two
abbrev pub of_body : Flat Maker → Nodes → Node
of_body x f = x.head (f ∷ [])

abbrev pub of_bodies : Flat Maker → Nodes → Nodes → Node
of_bodies x f o = x.head (f ∷ o ∷ [])

-- what a `case` makes of its `when` parts and its else list
abbrev pub of_arms : code.Node → tree.Whens → Nodes → Node
of_arms (Case target arms end) ws o = tree.case_of (expression_view target) ws o
of_arms _ ws o = tree.comment

-- no block begins with the body of a `when`
abbrev pub opening : Block → Stage → code.Node → nesting.Opening
opening b First n = nesting.of_two b (of_bodies (flat_of n))
opening b Last n = nesting.of_one b (of_body (flat_of n))
opening b CaseHead n = nesting.of_many b (of_arms n)
opening b WhenBody n = nesting.of_many b (of_arms n)

-- the nodes of one
abbrev pub alone : Node → Nodes
alone n = tree.node n no_nodes

abbrev pub statement_view : Statement → nesting.Statement
statement_view (statements.Leaf n) = nesting.leaf ((flat_of n).head [])
statement_view (statements.Through filters n) =
    nesting.leaf (tree.filtered (map chain_filter_view filters.items) (alone ((flat_of n).head [])))
statement_view (statements.Verbatim n) = nesting.closed ((flat_of n).head [])
statement_view (statements.Begins b stage n) = nesting.begins (opening b stage n)
statement_view (statements.Elsif n) = nesting.elsif (of_bodies (flat_of n))
statement_view (statements.When values) = nesting.arm (map expression_view values.items)
statement_view statements.Else = nesting.otherwise
statement_view statements.End = nesting.ends

-- the node has room for where its bodies end: two of them, or one, or as many as the `when` parts
-- that will come
abbrev pub IsPrepared : Stage → code.Node → Type 0
IsPrepared First n = (y z : ℕ) × ((flat_of n).ends ≡ y ∷ z ∷ [])
IsPrepared Last n = (z : ℕ) × ((flat_of n).ends ≡ z ∷ [])
IsPrepared CaseHead n = (t : Expression) × (z : ℕ) × (flat_of n ≡ case_flat t [] [] z) ×
    ((ws : tree.Whens) (o : Nodes) → of_arms n ws o ≡ tree.case_of t ws o)
IsPrepared WhenBody n = ⊥

abbrev pub IsSound : Statement → Type 0
IsSound (statements.Leaf n) = (flat_of n).ends ≡ []
IsSound (statements.Through filters n) = (flat_of n).ends ≡ []
IsSound (statements.Verbatim n) = (flat_of n).ends ≡ []
IsSound (statements.Begins b stage n) = IsPrepared stage n
IsSound (statements.Elsif n) = IsPrepared First n
IsSound (statements.When values) = Unit {0}
IsSound statements.Else = Unit {0}
IsSound statements.End = Unit {0}

-- ---- what is written into a node

abbrev pub set_before_last : ℕ → List ℕ → List ℕ
set_before_last e [] = []
set_before_last e (y ∷ []) = y ∷ []
set_before_last e (y ∷ z ∷ []) = e ∷ z ∷ []
set_before_last e (y ∷ z ∷ v ∷ vs) = y ∷ set_before_last e (z ∷ v ∷ vs)

abbrev pub set_last : ℕ → List ℕ → List ℕ
set_last e [] = []
set_last e (y ∷ []) = e ∷ []
set_last e (y ∷ z ∷ zs) = y ∷ set_last e (z ∷ zs)

abbrev pub before_last_ended : ℕ → Flat Maker → Flat Maker
before_last_ended e x = record { head = x.head; ends = set_before_last e x.ends }

abbrev pub last_ended : ℕ → Flat Maker → Flat Maker
last_ended e x = record { head = x.head; ends = set_last e x.ends }

-- the node at a place tells where the body before its last ends: at the end of the list
abbrev pub EndIsSet : ℕ → List (Flat Maker) → List (Flat Maker) → Type 0
EndIsSet at ns ms = (old : Flat Maker) × (old ≡ get_or ns at old) ×
    (ms ≡ slice_set ns at (before_last_ended (length ns) old))

-- the body that was being read has ended, unless it is the last; what isn't kept is dropped
abbrev pub BodyEnded : Stage → ℕ → List (Flat Maker) → List (Flat Maker) → Type 0
BodyEnded First at ns ms = EndIsSet at ns ms
BodyEnded Last at ns ms = ms ≡ ns
BodyEnded CaseHead at ns ms = ms ≡ take (at + 1) ns
BodyEnded WhenBody at ns ms = EndIsSet at ns ms

abbrev pub takes_else : Stage → Bool
takes_else First = true
takes_else Last = false
takes_else CaseHead = true
takes_else WhenBody = true

abbrev pub takes_when : Stage → Bool
takes_when First = false
takes_when Last = false
takes_when CaseHead = true
takes_when WhenBody = true

-- a `case` has one `when` more, whose body begins now
abbrev pub IsAdded : List Expression → Flat Maker → Flat Maker → Type 0
IsAdded vs x y = (t : Expression) (vss : List (List Expression)) (es : List ℕ) (z : ℕ) →
    length vss ≡ length es → x ≡ case_flat t vss es z →
    y ≡ case_flat t (vss ++ vs ∷ []) (es ++ 0 ∷ []) z

-- ---- the nodes and the open blocks

-- what a `case` makes of further `when` parts after those with these values and bodies, and of its
-- else list
abbrev pub after_arms : (tree.Whens → Nodes → Node) → List (List Expression) → List Nodes →
    tree.Whens → Nodes → Node
after_arms make [] fs ws o = make ws o
after_arms make (vs ∷ vss) [] ws o = make ws o
after_arms make (vs ∷ vss) (f ∷ fs) ws o =
    after_arms (λ ws o. make (tree.when vs f ws) o) vss fs ws o

abbrev pub armed_with : Expression → List (List Expression) → List Nodes → tree.Whens → Nodes → Node
armed_with t vss fs ws o = after_arms (λ ws o. tree.case_of t ws o) vss fs ws o

-- a `case` with as many `when` parts as closed bodies, which begin at k
abbrev pub IsCase : Flat Maker → Bodies Maker → ℕ → (tree.Whens → Nodes → Node) → Type 0
IsCase x bs k make =
    (t : Expression) × (vss : List (List Expression)) × (z : ℕ) ×
    (length vss ≡ length (bodies_of bs)) × (x ≡ case_flat t vss (ends_of k bs) z)
    × ((ws : tree.Whens) (o : Nodes) → make ws o ≡ armed_with t vss (bodies_of bs) ws o)

-- An open block, of which the closed bodies begin at k: where those end stands in its node, and its
-- node makes of them and of what follows what is to be made.
abbrev pub Fits : Open → Reading → Flat Maker → Bodies Maker → ℕ → Type 0
Fits o (last b make) x bs k =
    (o.stage ≡ Last) × (o.block ≡ b) × ((z : ℕ) × (x.ends ≡ ends_of k bs ++ z ∷ [])) ×
    ((g : Nodes) → make g ≡ x.head (bodies_of bs ++ g ∷ []))
Fits o (first b make) x bs k =
    (o.stage ≡ First) × (o.block ≡ b) × (bs ≡ no_bodies) × ((y z : ℕ) × (x.ends ≡ y ∷ z ∷ [])) ×
    ((g h : Nodes) → make g h ≡ x.head (g ∷ h ∷ []))
Fits o (case_head b make) x bs k =
    (o.stage ≡ CaseHead) × (o.block ≡ b) × (bs ≡ no_bodies) × IsCase x no_bodies k make
Fits o (when_body b make) x bs k =
    (o.stage ≡ WhenBody) × (o.block ≡ b) × (t : Expression) × (vss : List (List Expression)) ×
    (vs : List Expression) × (y z : ℕ) × (length vss ≡ length (bodies_of bs)) ×
    (x ≡ case_flat t (vss ++ vs ∷ []) (ends_of k bs ++ y ∷ []) z)
    × ((g : Nodes) (ws : tree.Whens) (o : Nodes) → make g ws o ≡ armed_with t vss (bodies_of bs)
    (tree.when vs g ws) o)

-- the list, the blocks that are open (the innermost first), and the nodes since
abbrev pub Builds : List (Flat Maker) → List Open → List Level → Nodes → Type 0
Builds ns [] [] cur = (c : Forest Maker) × (cur ≡ nodes_of c) × (ns ≡ laid 0 c)
Builds ns (o ∷ os) [] cur = ⊥
Builds ns [] (l ∷ ls) cur = ⊥
Builds ns (o ∷ os) (level r f k ∷ ls) cur =
    (pre : List (Flat Maker)) × (x : Flat Maker) × (bs : Bodies Maker) × (c : Forest Maker) ×
    (cur ≡ nodes_of c) × (o.node_index ≡ length pre) × (o.chained ≡ k) ×
    Fits o r x bs (length pre + 1)
    × (ns ≡ pre ++ x ∷ (laid_bodies (length pre + 1) bs ++ laid (length pre + 1 + sizes bs) c)) ×
    Builds pre os ls f

abbrev pub IsStack : Builder → List Level → Nodes → Type 0
IsStack b ls cur = Builds (flats b.nodes.items) (reverse b.blocks.items) ls cur

abbrev pub IsBuilding : Builder → List Level → Nodes → Type 0
IsBuilding b ls cur = IsStack b ls cur × (b.depth ≡ block_depth ls)

abbrev pub IsBuilt : Builder → Type 0
IsBuilt b = (ls : List Level) × (cur : Nodes) × IsBuilding b ls cur

-- as many blocks are open as may be, in one another
abbrev pub is_full : Builder → Bool
is_full b = nat_le 200 b.depth

-- ---- what the builder's calls do

-- The builder went on to the state that was to come, memory aside. No fault is answered where there
-- is one.
abbrev pub AdvancesTo : Option State → Builder → Result (Unit {0}) ParseError → Type 0
AdvancesTo read b (Ok _) = (s : State) × (read ≡ Some s) × IsBuilding b s.0 s.1
AdvancesTo read b (Err e) = Fails e read

-- where the body stands that is being read
abbrev pub stage_context : Stage → Block → BlockContext
stage_context First b = InBody b
stage_context Last b = InLast b
stage_context CaseHead b = InBody b
stage_context WhenBody b = InBody b

abbrev pub context_at : Option Open → BlockContext
context_at None = Outside
context_at (Some o) = stage_context o.stage o.block

-- a text left empty is no node
abbrev pub text_added : List ℕ → Nodes → Nodes
text_added [] cur = cur
text_added (b ∷ bs) cur = with_node cur (plain (b ∷ bs))

abbrev pub Begins : Block → Stage → Bool → code.Node → List Level → Nodes → Builder → Type 0
Begins block stage chained n ls cur b =
    IsStack b (level (begun (opening block stage n)) cur chained ∷ ls) no_nodes

-- the block of which the first body is being read, if one is: no `elsif` stands elsewhere
abbrev pub IsFirst : List Level → Option Block → Type 0
IsFirst ls (Some b) = (make : Nodes → Nodes → Node) × (f : Nodes) × (k : Bool) ×
    (rest : List Level) × (ls ≡ level (first b make) f k ∷ rest)
IsFirst ls None = (next : Nodes → Nodes → Node) (cur : Nodes) → to_elsif next ls cur ≡ None

-- The first body of the block that is answered has ended, and its last has begun. No `elsif` stands
-- where there is a fault.
abbrev pub EndsFirst : List Level → Nodes → Builder → Result Block ParseError → Type 0
EndsFirst ls cur b (Ok block) = (s : State) × IsBuilding b s.0 s.1 ×
    ((next : Nodes → Nodes → Node) → to_elsif next ls cur ≡
    Some (level (first block next) s.1 true ∷ s.0, no_nodes))
EndsFirst ls cur b (Err e) = (next : Nodes → Nodes → Node) → Fails e (to_elsif next ls cur)

-- no refusal but that of memory
abbrev pub IsMemory : Result (Unit {0}) ParseError → Type 0
IsMemory (Ok _) = Unit {0}
IsMemory (Err e) = e ≡ errors.Memory

-- the innermost block has ended with the nodes since, and the answer says whether an `elsif` opened
-- it
abbrev pub Closes : List Level → Nodes → Builder → Option Bool → Type 0
Closes [] cur b None = Unit {0}
Closes [] cur b (Some k) = ⊥
Closes (level r f k ∷ ls) cur b None = ⊥
Closes (level r f k ∷ ls) cur b (Some c) = (c ≡ k) × IsStack b ls (with_node f (ended r cur))

abbrev pub Finishes : Option Nodes → Result Template ParseError → Type 0
Finishes read (Ok t) = read ≡ Some (tree_of t)
Finishes read (Err e) = Fails e read
