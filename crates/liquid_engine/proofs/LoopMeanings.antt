-- What a `for` and a `tablerow` mean, by what they ask for.
use Rattle.std.proofs.Common.{◌≡◌, ℕ, zero, suc, ◌<◌, ◌==◌, Bool, true, false, cond, List, [], ◌∷◌, length, Option, Some, None, Result, Ok, Err, refl, sym, ap, ◌∙◌, arith, codes}
use Rattle.std.specs.Prelude.{ℤ}
use Rattle.liquid_model.specs.Answer.{Faulted}
use Rattle.liquid_model.specs.Data.{Datum}
use Rattle.liquid_model.specs.Fallible as fallible
use Rattle.liquid_model.specs.Maps.{Map}
use Rattle.liquid_model.specs.Texts.{Text}
use Rattle.liquid_model.specs.declared.error.Error.{Error}
use Rattle.liquid_model.specs.declared.error.ErrorKind.{ErrorKind}
use Rattle.liquid_model.specs.declared.error.ErrorKind.TheVariants.{ZeroColumns}
use Rattle.liquid_core.specs.Environment.{Environment}
use Rattle.liquid_core.specs.Expression.{Expression}
use Rattle.liquid_core.specs.Loops.{loop_scope, forloop_object, tablerow_object}
use Rattle.liquid_core.specs.LoopFrames.{frame_item_at, frame_map_at}
use Rattle.liquid_core.specs.declared.interrupt.Interrupt.{Interrupt}
use Rattle.liquid_core.specs.declared.frame.LoopFrame.{LoopFrame}
use Rattle.liquid_evaluation.specs.Evaluation.{amount, selected_items, source_items}
use Rattle.liquid_evaluation.specs.Tree as tree
use Rattle.liquid_meaning.specs.Effects.{is_break, take_interrupt, variable_or_nil}
use Rattle.liquid_meaning.specs.Loops.{cell_end, cell_start, columns_of, for_all, if_empty, loop, rows, until_break}
use Rattle.liquid_meaning.specs.Meaning.{Setting, node_meaning, nodes_meaning}
use Rattle.liquid_meaning.specs.Runs.{Nothing, Run, done, evaluate, fault, read_environment, write, go_on, ◌>>=◌, with_scope}
use Rattle.liquid_meaning.proofs.Rules.{all_more, all_none, for_rule, joined, tablerow_rule, until_more, until_none}
use Rattle.liquid_engine.specs.inside.LoopRuns.{cells_meant, one_cell, one_turn, turns_meant}
use Rattle.liquid_engine.specs.inside.LoopTurns.{IsFor, IsRow, cells_asked, each_from, in_columns, items_asked, turn_items}
use Rattle.liquid_engine.specs.Performs.{Configuration, Performs, unit}
use Rattle.liquid_engine.proofs.Joined.{by_rule, done_met, given_met, read_met, refused_met}
use Rattle.liquid_engine.proofs.LoopItems.{each_count}

-- ---- runs that are the same for each item

until_by : (one other : ℕ → Datum → Run (Option Interrupt)) (item : ℕ → Datum) (k m : ℕ) → ((j : ℕ) → one j (item j) ≡ other j (item j)) → until_break one k (each_from item k m) ≡ until_break other k (each_from item k m)
until_by one other item k zero h = until_none one k ∙ sym (until_none other k)
until_by one other item k (suc m) h =
    until_more one k (item k) (each_from item (suc k) m)
    ∙ (λ i. h k i >>= (λ left. cond (is_break left) (done tt) (until_by one other item (suc k) m h i)))
    ∙ sym (until_more other k (item k) (each_from item (suc k) m))

all_by : (one other : ℕ → Datum → Run Nothing) (item : ℕ → Datum) (k m : ℕ) → ((j : ℕ) → one j (item j) ≡ other j (item j)) → for_all one k (each_from item k m) ≡ for_all other k (each_from item k m)
all_by one other item k zero h = all_none one k ∙ sym (all_none other k)
all_by one other item k (suc m) h =
    all_more one k (item k) (each_from item (suc k) m)
    ∙ (λ i. h k i >>= (λ a. all_by one other item (suc k) m h i))
    ∙ sym (all_more other k (item k) (each_from item (suc k) m))

-- ---- for

some_items : (item : ℕ → Datum) (m : ℕ) (x y : Run Nothing) → 0 < m → if_empty (each_from item 0 m) x y ≡ y
some_items item zero x y lt = absurd (omega arith)
some_items item (suc m) x y lt = refl

-- a loop is the turns of the turn that binds what it binds
turns_are : (t : LoopFrame) (name : Text) (parent : Datum) (local : Map Datum) (body : Run Nothing)
    → ((k : ℕ) → frame_map_at t k local ≡ loop_scope (codes "forloop") (forloop_object k t.count parent) name (frame_item_at t k)) → loop name parent (turn_items t) body ≡ turns_meant t local body
unfolding loop
turns_are t name parent local body names =
    until_by (λ k d. with_scope (loop_scope (codes "forloop") (forloop_object k (length (turn_items t)) parent) name d) body >>= (λ a. take_interrupt)) (one_turn t local body) (frame_item_at t) 0 t.count
    (λ k. ap (λ n. with_scope (loop_scope (codes "forloop") (forloop_object k n parent) name (frame_item_at t k)) body >>= (λ a. take_interrupt)) (each_count (frame_item_at t) 0 t.count)
    ∙ ap (λ scope. with_scope scope body >>= (λ a. take_interrupt)) (sym (names k)))

module _ (setting : Setting) (deeper : tree.Nodes → Run Nothing) (name : Text) (source : tree.Source) (window : tree.Window) (body otherwise : tree.Nodes) where
  -- a `for` whose items these are
  abbrev for_items : List Datum → Run Nothing
  for_items items = read_environment (variable_or_nil (codes "forloop")) >>= (λ parent. if_empty items (nodes_meaning setting deeper otherwise) (loop name parent items (nodes_meaning setting deeper body)))

  for_asks : node_meaning setting deeper (tree.for_each name source window body otherwise) ≡ (evaluate (items_asked source window) >>= for_items)
  for_asks = for_rule setting deeper name source window body otherwise ∙ joined (source_items source) (λ all. selected_items window all) for_items

  pub for_refused : (e : Error) (p : Configuration) → Faulted e.kind (items_asked source window p.environment) → Performs (Err e) (node_meaning setting deeper (tree.for_each name source window body otherwise)) p p
  for_refused e p h = by_rule for_asks (refused_met {V = List Datum} (λ x. x) unit e (items_asked source window) for_items p h)

  pub for_none : (r : Result (Unit {0}) Error) (p q : Configuration) → items_asked source window p.environment ≡ Ok [] → Performs r (nodes_meaning setting deeper otherwise) p q
      → Performs r (node_meaning setting deeper (tree.for_each name source window body otherwise)) p q
  for_none r p q is h =
      by_rule for_asks (given_met {V = List Datum} (λ x. x) unit [] r (items_asked source window) for_items p q is
      (read_met unit r (variable_or_nil (codes "forloop")) (λ parent. if_empty [] (nodes_meaning setting deeper otherwise) (loop name parent [] (nodes_meaning setting deeper body))) p q h))

  pub for_some : (t : LoopFrame) (r : Result (Unit {0}) Error) (p q : Configuration) → 0 < t.count → items_asked source window p.environment ≡ Ok (turn_items t) → IsFor name p.environment t
      → Performs r (turns_meant t p.environment.local (nodes_meaning setting deeper body)) p q → Performs r (node_meaning setting deeper (tree.for_each name source window body otherwise)) p q
  for_some t r p q some is binds h =
      let parent = variable_or_nil (codes "forloop") p.environment in
      let turns : if_empty (turn_items t) (nodes_meaning setting deeper otherwise) (loop name parent (turn_items t) (nodes_meaning setting deeper body)) ≡ turns_meant t p.environment.local (nodes_meaning setting deeper body) =
      some_items (frame_item_at t) t.count (nodes_meaning setting deeper otherwise) (loop name parent (turn_items t) (nodes_meaning setting deeper body)) some
      ∙ turns_are t name parent p.environment.local (nodes_meaning setting deeper body) binds.names in
      by_rule for_asks (given_met {V = List Datum} (λ x. x) unit (turn_items t) r (items_asked source window) for_items p q is
      (read_met unit r (variable_or_nil (codes "forloop")) (λ parent. if_empty (turn_items t) (nodes_meaning setting deeper otherwise) (loop name parent (turn_items t) (nodes_meaning setting deeper body))) p q (by_rule turns h)))

-- ---- tablerow

-- the cells of items in columns
abbrev cells : Text → Run Nothing → Option (List Datum × ℕ) → Run Nothing
cells name body None = done tt
cells name body (Some x) = for_all (λ k d. write (cell_start k x.1) >>= (λ a. with_scope (loop_scope (codes "tablerow") (tablerow_object k (length x.0) x.1) name d) body >>= (λ b. write (cell_end k (length x.0) x.1)))) 0 x.0

rows_known : (name : Text) (columns : ℕ) (items : List Datum) (body : Run Nothing) → rows name columns items body ≡ (evaluate (λ e. in_columns items columns) >>= cells name body)
unfolding rows for_all done evaluate fault ◌>>=◌ go_on
rows_known name columns [] body = refl
rows_known name columns (d ∷ ds) body = on (columns == 0)
  where
    on : (none : Bool) → (cond none (fault {A = Nothing} ZeroColumns) (done {A = Nothing} (let value : Nothing = tt in value)) >>= (λ (a : Nothing). cells name body (Some (d ∷ ds, columns))))
        ≡ (evaluate (λ e. fallible.◌>>=◌ (cond none (Err ZeroColumns) (Ok columns)) (λ some. Ok (Some (d ∷ ds, some)))) >>= cells name body)
    on true = refl
    on false = refl

cells_are : (t : LoopFrame) (name : Text) (columns : ℕ) (local : Map Datum) (body : Run Nothing) → IsRow name columns t → cells name body (Some (turn_items t, columns)) ≡ cells_meant t columns local body
cells_are t name columns local body binds =
    let one : ℕ → ℕ → Map Datum → Run Nothing = λ k n scope. write (cell_start k columns) >>= (λ a. with_scope scope body >>= (λ b. write (cell_end k n columns))) in
    all_by (λ k d. one k (length (turn_items t)) (loop_scope (codes "tablerow") (tablerow_object k (length (turn_items t)) columns) name d)) (one_cell t columns local body) (frame_item_at t) 0 t.count
    (λ k. ap (λ n. one k n (loop_scope (codes "tablerow") (tablerow_object k n columns) name (frame_item_at t k))) (each_count (frame_item_at t) 0 t.count)
    ∙ ap (one k t.count) (sym (binds.names k local)))

module _ (setting : Setting) (deeper : tree.Nodes → Run Nothing) (name : Text) (source : tree.Source) (window : tree.Window) (columns : Option Expression) (body : tree.Nodes) where
  row_asks : node_meaning setting deeper (tree.tablerow name source window columns body) ≡ (evaluate (cells_asked source window columns) >>= cells name (nodes_meaning setting deeper body))
  row_asks =
      let m = nodes_meaning setting deeper body in
      let rest : List Datum → Option ℤ → Environment → Result (Option (List Datum × ℕ)) ErrorKind = λ all asked e. fallible.◌>>=◌ (selected_items window all e) (λ items. in_columns items (columns_of (length items) asked)) in
      tablerow_rule setting deeper name source window columns body
      ∙ (λ i. evaluate (source_items source) >>= (λ all. evaluate (amount columns) >>= (λ asked. evaluate (selected_items window all) >>= (λ items. rows_known name (columns_of (length items) asked) items m i))))
      ∙ (λ i. evaluate (source_items source) >>= (λ all. evaluate (amount columns) >>= (λ asked. joined (selected_items window all) (λ items e. in_columns items (columns_of (length items) asked)) (cells name m) i)))
      ∙ (λ i. evaluate (source_items source) >>= (λ all. joined (amount columns) (rest all) (cells name m) i))
      ∙ joined (source_items source) (λ all e. fallible.◌>>=◌ (amount columns e) (λ asked. rest all asked e)) (cells name m)

  pub row_refused : (e : Error) (p : Configuration) → Faulted e.kind (cells_asked source window columns p.environment) → Performs (Err e) (node_meaning setting deeper (tree.tablerow name source window columns body)) p p
  row_refused e p h = by_rule row_asks (refused_met {V = Option (List Datum × ℕ)} (λ x. x) unit e (cells_asked source window columns) (cells name (nodes_meaning setting deeper body)) p h)

  pub row_none : (value : Unit {0}) (p : Configuration) → cells_asked source window columns p.environment ≡ Ok None → Performs (Ok value) (node_meaning setting deeper (tree.tablerow name source window columns body)) p p
  row_none value p is =
      by_rule row_asks (given_met {V = Option (List Datum × ℕ)} (λ x. x) unit None (Ok value) (cells_asked source window columns) (cells name (nodes_meaning setting deeper body)) p p is (done_met value p))

  pub row_some : (t : LoopFrame) (many : ℕ) (r : Result (Unit {0}) Error) (p q : Configuration) → cells_asked source window columns p.environment ≡ Ok (Some (turn_items t, many)) → IsRow name many t
      → Performs r (cells_meant t many p.environment.local (nodes_meaning setting deeper body)) p q → Performs r (node_meaning setting deeper (tree.tablerow name source window columns body)) p q
  row_some t many r p q is binds h =
      by_rule row_asks (given_met {V = Option (List Datum × ℕ)} (λ x. x) unit (Some (turn_items t, many)) r (cells_asked source window columns) (cells name (nodes_meaning setting deeper body)) p q is
      (by_rule (cells_are t name many p.environment.local (nodes_meaning setting deeper body) binds) h))
