-- Where an `assign` to a name ran: among the nodes of a list, after others, in a body, at an item
-- of a loop.
--     RanAmong setting deeper name nodes e      in the run of nodes over e, where deeper is the
--       meaning of a partial
use Rattle.std.specs.Prelude.{◌≡◌, ℕ, suc, ◌==◌, ℤ, Bool, false, cond, List, ◌∷◌, length, Option}
use Rattle.std.specs.Prelude.{None, Ok, IsSome, codes}
use Rattle.liquid_model.specs.Texts.{Text}
use Rattle.liquid_model.specs.Data.{Datum}
use Rattle.liquid_model.specs.Maps.{Map, merged}
use Rattle.liquid_core.specs.Expression.{Expression}
use Rattle.liquid_core.specs.Environment.{Environment}
use Rattle.liquid_core.specs.declared.interrupt.Interrupt.{Interrupt}
use Rattle.liquid_evaluation.specs.Tree.{FilterCall, Chain, Condition, Source, Window, Node}
use Rattle.liquid_evaluation.specs.Tree.{assign, if_true, unless, for_each, tablerow, capture}
use Rattle.liquid_evaluation.specs.Tree.{ifchanged, filtered, Nodes, node}
use Rattle.liquid_evaluation.specs.Evaluation.{chain_value, truth_of, source_items, amount}
use Rattle.liquid_evaluation.specs.Evaluation.{selected_items}
use Rattle.liquid_meaning.specs.Runs.{Nothing, Run, write, ◌>>◌, with_scope}
use Rattle.liquid_meaning.specs.Effects.{is_break, take_interrupt, variable_or_nil}
use Rattle.liquid_core.specs.Loops.{loop_scope, forloop_object, tablerow_object}
use Rattle.liquid_meaning.specs.Loops.{columns_of, cell_start, cell_end}
use Rattle.liquid_meaning.specs.Meaning.{Setting, node_meaning, deeper_meaning, nodes_meaning}
use Rattle.liquid_meaning.specs.Meaning.{meaning}

-- what a `for` binds at item k of m, and a `tablerow`
abbrev pub for_scope : Text → Datum → ℕ → ℕ → Datum → Map Datum
for_scope variable parent m k d =
    loop_scope (codes "forloop") (forloop_object k m parent) variable d

abbrev pub row_scope : Text → ℕ → ℕ → ℕ → Datum → Map Datum
row_scope variable columns m k d =
    loop_scope (codes "tablerow") (tablerow_object k m columns) variable d

-- one turn of a `for`, and one cell of a `tablerow`
abbrev pub loop_turn : Text → Datum → ℕ → Run Nothing → ℕ → Datum → Run (Option Interrupt)
loop_turn variable parent m body k d = do
  with_scope (for_scope variable parent m k d) body
  take_interrupt

abbrev pub cell : Text → ℕ → ℕ → Run Nothing → ℕ → Datum → Run Nothing
cell variable columns m body k d = do
  write (cell_start k columns)
  with_scope (row_scope variable columns m k d) body
  write (cell_end k m columns)

abbrev pub scoped : Map Datum → Environment → Environment
scoped scope e = record e { local = merged scope e.local }

module _ (setting : Setting) (deeper : Nodes → Run Nothing) (name : Text) where
  mutual
    -- in the first node, or in one after it where that ended by a value and left no interrupt
    pub data RanAmong : Nodes → Environment → Type 0 where
      at_first : {n : Node} {more : Nodes} {e : Environment} → RanIn n e → RanAmong (node n more) e
      after : {n : Node} {more : Nodes} {e : Environment}
          → (node_meaning setting deeper n e).end ≡ Ok tt →
          (node_meaning setting deeper n e).environment.registers.interrupt ≡ None
          → RanAmong more (node_meaning setting deeper n e).environment → RanAmong (node n more) e

    -- an `assign` to the name whose chain has a value, or one in a body that ran
    pub data RanIn : Node → Environment → Type 0 where
      the_assign : {chain : Chain} {d : Datum} {e : Environment} →
          chain_value setting.answers chain e ≡ Ok d → RanIn (assign name chain) e
      in_if : {condition : Condition} {body otherwise : Nodes} {holds : Bool} {e : Environment}
          → truth_of condition e ≡ Ok holds → RanAmong (cond holds body otherwise) e →
          RanIn (if_true condition body otherwise) e
      in_unless : {condition : Condition} {body otherwise : Nodes} {holds : Bool} {e : Environment}
          → truth_of condition e ≡ Ok holds → RanAmong (cond holds otherwise body) e →
          RanIn (unless condition body otherwise) e
      in_capture : {target : Text} {body : Nodes} {e : Environment} → RanAmong body e →
          RanIn (capture target body) e
      in_ifchanged : {body : Nodes} {e : Environment} → RanAmong body e → RanIn (ifchanged body) e
      in_filtered : {filters : List FilterCall} {body : Nodes} {e : Environment} →
          RanAmong body e → RanIn (filtered filters body) e
      in_for : {variable : Text} {source : Source} {window : Window} {body otherwise : Nodes}
          {all items : List Datum} {d : Datum} {e : Environment}
          → source_items source e ≡ Ok all → selected_items window all e ≡ Ok (d ∷ items)
          → RanAtItem variable (variable_or_nil (codes "forloop") e) (length (d ∷ items)) body 0
          (d ∷ items) e
          → RanIn (for_each variable source window body otherwise) e
      in_tablerow : {variable : Text} {source : Source} {window : Window}
          {columns : Option Expression} {body : Nodes} {all items : List Datum}
          {asked : Option ℤ} {d : Datum} {e : Environment}
          → source_items source e ≡ Ok all → amount columns e ≡ Ok asked → selected_items window all
          e ≡ Ok (d ∷ items)
          → (columns_of (length (d ∷ items)) asked == 0) ≡ false
          → RanInCell variable (columns_of (length (d ∷ items)) asked) (length (d ∷ items)) body 0
          (d ∷ items) e
          → RanIn (tablerow variable source window columns body) e

    -- at item k of a `for`, or at a later one that was reached
    pub data RanAtItem : Text → Datum → ℕ → Nodes → ℕ → List Datum → Environment → Type 0 where
      at_item : {variable : Text} {parent d : Datum} {m k : ℕ} {body : Nodes} {ds : List Datum}
          {e : Environment}
          → RanAmong body (scoped (for_scope variable parent m k d) e) →
          RanAtItem variable parent m body k (d ∷ ds) e
      at_later : {variable : Text} {parent d : Datum} {m k : ℕ} {body : Nodes} {ds : List Datum}
          {left : Option Interrupt} {e : Environment}
          → (loop_turn variable parent m (nodes_meaning setting deeper body) k d e).end ≡ Ok left →
          is_break left ≡ false
          → RanAtItem variable parent m body (suc k) ds
          (loop_turn variable parent m (nodes_meaning setting deeper body) k d e).environment
          → RanAtItem variable parent m body k (d ∷ ds) e

    -- in the cell of item k of a `tablerow`, or in a later one that was reached
    pub data RanInCell : Text → ℕ → ℕ → Nodes → ℕ → List Datum → Environment → Type 0 where
      in_cell : {variable : Text} {d : Datum} {columns m k : ℕ} {body : Nodes} {ds : List Datum}
          {e : Environment}
          → RanAmong body (scoped (row_scope variable columns m k d) e) →
          RanInCell variable columns m body k (d ∷ ds) e
      in_later : {variable : Text} {d : Datum} {columns m k : ℕ} {body : Nodes} {ds : List Datum}
          {e : Environment}
          → (cell variable columns m (nodes_meaning setting deeper body) k d e).end ≡ Ok tt
          → RanInCell variable columns m body (suc k) ds
          (cell variable columns m (nodes_meaning setting deeper body) k d e).environment
          → RanInCell variable columns m body k (d ∷ ds) e

-- what was assigned anywhere in a run is there after it, however the run ends
abbrev pub AssignedAnywhere : Type 0
AssignedAnywhere = (setting : Setting) (depth : ℕ) (nodes : Nodes) (e : Environment) (name : Text)
    → RanAmong setting (deeper_meaning setting depth) name nodes e →
    IsSome ((meaning setting depth nodes e).environment.assigned name)
