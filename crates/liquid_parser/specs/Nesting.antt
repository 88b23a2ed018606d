-- The written grammar of blocks: which nodes a list of pieces is. What a single piece is, where it
-- stands, `Is` says.
use Rattle.std.specs.Prelude.{ℕ, suc, List, ◌∷◌}
use Rattle.liquid_core.specs.Expression.{Expression}
use Rattle.liquid_evaluation.specs.Tree.{Node, Nodes, no_nodes, node, Whens, no_whens, when}
use Rattle.liquid_language.specs.declared.block.Block.{Block}
use Rattle.liquid_language.specs.declared.block.BlockContext.{BlockContext}
use Rattle.liquid_language.specs.declared.block.BlockContext.TheVariants.{InBody, InLast}

-- a block that begins: the bodies that it has, and the node that it makes of them
pub data Opening : Type 0 where
  of_one : Block → (Nodes → Node) → Opening  -- one body
  of_two : Block → (Nodes → Nodes → Node) → Opening  -- a body, and an else list that may be missing
  -- `when` parts, and an else list that may be missing
  of_many : Block → (Whens → Nodes → Node) → Opening

-- what a piece is, where it stands
pub data Statement : Type 0 where
  leaf : Node → Statement  -- a node without bodies
  closed : Node → Statement  -- a block whose body isn't read, as a whole
  begins : Opening → Statement  -- the start of a block
  -- `elsif`, and the node that it makes of its body and its else list
  elsif : (Nodes → Nodes → Node) → Statement
  arm : List Expression → Statement  -- `when`, with its values
  otherwise : Statement  -- `else`
  ends : Statement  -- the end of a block
  refused : Statement

module _ {P : Type 0} (Is : BlockContext → P → Statement → Type 0) where
  mutual
    -- In a context, the pieces ps begin with the nodes f, and rest follows them. Blocks nest at
    -- most d deep in them.
    pub data AreNodes : BlockContext → ℕ → Nodes → List P → List P → Type 0 where
      none : {x : BlockContext} {d : ℕ} {ps : List P} → AreNodes x d no_nodes ps ps
      is_leaf : {x : BlockContext} {d : ℕ} {p : P} {n : Node} {f : Nodes} {ps rest : List P}
          → Is x p (leaf n) → AreNodes x d f ps rest → AreNodes x d (node n f) (p ∷ ps) rest
      is_closed : {x : BlockContext} {d : ℕ} {p : P} {n : Node} {f : Nodes} {ps rest : List P}
          → Is x p (closed n) → AreNodes x (suc d) f ps rest →
          AreNodes x (suc d) (node n f) (p ∷ ps) rest
      is_block : {x : BlockContext} {d : ℕ} {p : P} {o : Opening} {n : Node} {f : Nodes}
          {ps after rest : List P}
          → Is x p (begins o) → IsBlock d o n ps after → AreNodes x (suc d) f after rest →
          AreNodes x (suc d) (node n f) (p ∷ ps) rest

    -- After its start, and up to its end, a block is the node n.
    pub data IsBlock : ℕ → Opening → Node → List P → List P → Type 0 where
      one : {d : ℕ} {b : Block} {make : Nodes → Node} {f : Nodes} {q : P} {ps rest : List P}
          → AreNodes (InLast b) d f ps (q ∷ rest) → Is (InLast b) q ends →
          IsBlock d (of_one b make) (make f) ps rest
      two : {d : ℕ} {b : Block} {make : Nodes → Nodes → Node} {f o : Nodes} {ps after rest : List P}
          → AreNodes (InBody b) d f ps after → IsElse b d o after rest →
          IsBlock d (of_two b make) (make f o) ps rest
      -- the nodes before the first `when` or `else` are not kept
      many : {d : ℕ} {b : Block} {make : Whens → Nodes → Node} {case_head o : Nodes} {ws : Whens}
          {ps after rest : List P}
          → AreNodes (InBody b) d case_head ps after → AreWhens b d ws o after rest →
          IsBlock d (of_many b make) (make ws o) ps rest

    -- After a body, and up to the block's end: its last body, which `else` begins, or none.
    pub data IsLast : Block → ℕ → Nodes → List P → List P → Type 0 where
      no_else : {b : Block} {d : ℕ} {p : P} {rest : List P} → Is (InBody b) p ends →
          IsLast b d no_nodes (p ∷ rest) rest
      is_else : {b : Block} {d : ℕ} {p q : P} {o : Nodes} {ps rest : List P}
          → Is (InBody b) p otherwise → AreNodes (InLast b) d o ps (q ∷ rest) →
          Is (InLast b) q ends → IsLast b d o (p ∷ ps) rest

    -- After a first body, and up to the block's end: the else list. An `elsif` is one node in it,
    -- and nests no deeper.
    pub data IsElse : Block → ℕ → Nodes → List P → List P → Type 0 where
      is_last : {b : Block} {d : ℕ} {o : Nodes} {ps rest : List P} → IsLast b d o ps rest →
          IsElse b d o ps rest
      is_elsif : {b : Block} {d : ℕ} {p : P} {make : Nodes → Nodes →
          Node} {f o : Nodes} {ps after rest : List P}
          → Is (InBody b) p (elsif make) → AreNodes (InBody b) d f ps after →
          IsElse b d o after rest → IsElse b d (node (make f o) no_nodes) (p ∷ ps) rest

    -- Up to the block's end: its `when` parts and its else list.
    pub data AreWhens : Block → ℕ → Whens → Nodes → List P → List P → Type 0 where
      no_more : {b : Block} {d : ℕ} {o : Nodes} {ps rest : List P} → IsLast b d o ps rest →
          AreWhens b d no_whens o ps rest
      is_when : {b : Block} {d : ℕ} {p : P} {vs : List Expression} {f o : Nodes} {ws : Whens}
          {ps after rest : List P}
          → Is (InBody b) p (arm vs) → AreNodes (InBody b) d f ps after →
          AreWhens b d ws o after rest → AreWhens b d (when vs f ws) o (p ∷ ps) rest
