-- What was assigned anywhere in a run is there after it.
use Rattle.std.specs.Prelude.{◌≡◌, ℕ, suc, ◌==◌, Bool, true, false, cond, List, [], ◌∷◌, length, Option, Some, None, Result, Ok, Err, IsSome}
use mathlib.Core.Path.{refl, sym, subst}
use Rattle.liquid_model.specs.Texts.{Text}
use Rattle.liquid_model.specs.Data.{Datum}
use Rattle.liquid_model.specs.Maps.{Map, insert, merged}
use Rattle.liquid_model.specs.declared.error.ErrorKind.{ErrorKind}
use Rattle.liquid_model.specs.declared.error.ErrorKind.TheVariants.{ZeroColumns}
use Rattle.liquid_model.proofs.Maps.{same_key}
use Rattle.liquid_core.specs.Environment.{Environment}
use Rattle.liquid_core.specs.declared.interrupt.Interrupt.{Interrupt}
use Rattle.liquid_evaluation.specs.Tree.{Node, Nodes}
use Rattle.liquid_meaning.specs.Runs.{Nothing, Run, done, fault, read_environment, evaluate, change, write, go_on, ◌>>=◌, with_scope, buffered}
use Rattle.liquid_meaning.specs.Effects.{assigned_to, is_break, if_none, unless_interrupted}
use Rattle.liquid_meaning.specs.Loops.{until_break, for_all, needs_columns, loop, rows, columns_of}
use Rattle.liquid_meaning.specs.Meaning.{Setting, node_meaning, nodes_meaning, deeper_meaning, meaning}
use Rattle.liquid_meaning.specs.Assigning.{RanAmong, RanIn, RanAtItem, RanInCell, at_first, after, the_assign, in_if, in_unless, in_capture, in_ifchanged, in_filtered, in_for, in_tablerow, at_item, at_later, in_cell, in_later, loop_turn, cell, for_scope, row_scope, AssignedAnywhere}
use Rattle.liquid_meaning.proofs.Stays.{Stays, stays_bind, stays_done, stays_cond, stays_with_scope, stays_until_break, stays_take_interrupt, stays_unless, stays_read, stays_evaluate, stays_change, stays_write, stays_assign, stays_for_all, nodes_stay, deeper_stays}

-- under the name something stands after m
abbrev pub Held : {A : Type 0} → Text → Run A → Environment → Type 0
Held name m e = IsSome ((m e).environment.assigned name)

-- the second of two runs is chosen
enough : (b : Bool) (m n : Run Nothing) → b ≡ false → cond b m n ≡ n
enough true m n h = absurd cc
enough false m n h = refl

module _ (name : Text) where
  -- what the first part leaves, the second keeps
  held_then : {A B : Type 0} (m : Run A) (k : A → Run B) (e : Environment) → ((a : A) → Stays name (k a)) → Held name m e → Held name (m >>= k) e
  unfolding ◌>>=◌ go_on
  held_then {A = A} m k e ik h = on (m e).text (m e).environment (m e).end h
    where
      on : (t : Text) (g : Environment) (x : Result A ErrorKind) → IsSome (g.assigned name) → IsSome ((go_on k t g x).environment.assigned name)
      on t g (Ok a) h = (ik a).stays g h
      on t g (Err kind) h = h

  -- what the second part leaves, where the first ends by a value
  held_after : {A B : Type 0} (m : Run A) (k : A → Run B) (e : Environment) (a : A) → (m e).end ≡ Ok a → Held name (k a) (m e).environment → Held name (m >>= k) e
  unfolding ◌>>=◌ go_on
  held_after {A = A} m k e a is h = subst (λ (x : Result A ErrorKind). IsSome ((go_on k (m e).text (m e).environment x).environment.assigned name)) (sym is) h

  given : {A B : Type 0} (x : Environment → Result A ErrorKind) (k : A → Run B) (e : Environment) (a : A) → x e ≡ Ok a → Held name (k a) e → Held name (evaluate x >>= k) e
  unfolding ◌>>=◌ go_on evaluate
  given {A = A} x k e a is h = subst (λ (r : Result A ErrorKind). IsSome ((go_on k [] e r).environment.assigned name)) (sym is) h

  known : {A B : Type 0} (x : Environment → A) (k : A → Run B) (e : Environment) → Held name (k (x e)) e → Held name (read_environment x >>= k) e
  unfolding ◌>>=◌ go_on read_environment
  known x k e h = h

  written : {B : Type 0} (t : Text) (k : Nothing → Run B) (e : Environment) → Held name (k tt) e → Held name (write t >>= k) e
  unfolding ◌>>=◌ go_on write
  written t k e h = h

  held_assign : (d : Datum) (e : Environment) → Held name (change (assigned_to name d)) e
  unfolding change insert
  held_assign d e = subst (λ b. IsSome (cond b (Some d) (e.assigned name))) (sym (same_key name)) refl

  held_scope : {A : Type 0} (scope : Map Datum) (m : Run A) (e : Environment) → Held name m (record e { local = merged scope e.local }) → Held name (with_scope scope m) e
  unfolding with_scope
  held_scope scope m e h = h

  held_buffered : {A : Type 0} (m : Run A) (e : Environment) → Held name m e → Held name (buffered m) e
  unfolding buffered
  held_buffered m e h = h

  held_unless : (m : Run Nothing) (e : Environment) → e.registers.interrupt ≡ None → Held name m e → Held name (unless_interrupted m) e
  unfolding unless_interrupted
  held_unless m e none h = subst (λ (i : Option Interrupt). IsSome ((if_none i m e).environment.assigned name)) (sym none) h

  held_cond : (b : Bool) (m n : Run Nothing) (e : Environment) → b ≡ false → Held name n e → Held name (cond b m n) e
  held_cond b m n e is h = subst (λ (c : Bool). Held name (cond c m n) e) (sym is) h

  columns_met : (m n : Run Nothing) (e : Environment) → m ≡ done tt → Held name n e → Held name (m >>= (λ a. n)) e
  unfolding ◌>>=◌ go_on done
  columns_met m n e is h = subst (λ (r : Run Nothing). IsSome ((go_on (λ a. n) (r e).text (r e).environment (r e).end).environment.assigned name)) (sym is) h

  rowed : (variable : Text) (columns : ℕ) (m : Run Nothing) (d : Datum) (items : List Datum) (e : Environment) → (columns == 0) ≡ false
      → Held name (for_all (cell variable columns (length (d ∷ items)) m) 0 (d ∷ items)) e → Held name (rows variable columns (d ∷ items) m) e
  unfolding rows
  rowed variable columns m d items e some h =
      columns_met (needs_columns (d ∷ items) columns) (for_all (cell variable columns (length (d ∷ items)) m) 0 (d ∷ items)) e (enough (columns == 0) (fault ZeroColumns) (done tt) some) h

module _ (name : Text) (setting : Setting) (deeper : Nodes → Run Nothing) (kept : (nodes : Nodes) → Stays name (deeper nodes)) where
  stays_turn : (variable : Text) (parent : Datum) (m : ℕ) (body : Nodes) (k : ℕ) (d : Datum) → Stays name (loop_turn variable parent m (nodes_meaning setting deeper body) k d)
  stays_turn variable parent m body k d = stays_bind (stays_with_scope _ (nodes_stay setting deeper kept body)) (λ a. stays_take_interrupt)

  stays_cell : (variable : Text) (columns m : ℕ) (body : Nodes) (k : ℕ) (d : Datum) → Stays name (cell variable columns m (nodes_meaning setting deeper body) k d)
  stays_cell variable columns m body k d = stays_bind (stays_write _) (λ a. stays_bind (stays_with_scope _ (nodes_stay setting deeper kept body)) (λ a. stays_write _))

  chosen : (b : Bool) (x y : Nodes) (e : Environment) → Held name (nodes_meaning setting deeper (cond b x y)) e → Held name (cond b (nodes_meaning setting deeper x) (nodes_meaning setting deeper y)) e
  chosen true x y e h = h
  chosen false x y e h = h

  mutual
    unfolding node_meaning nodes_meaning until_break for_all loop

    among : {nodes : Nodes} {e : Environment} → RanAmong setting deeper name nodes e → IsSome ((nodes_meaning setting deeper nodes e).environment.assigned name)
    among (at_first {n = n} {more = more} {e = e} r) = held_then name (node_meaning setting deeper n) _ e (λ a. stays_unless (nodes_stay setting deeper kept more)) (inside r)
    among (after {n = n} {more = more} {e = e} ended free r) =
        held_after name (node_meaning setting deeper n) _ e tt ended (held_unless name (nodes_meaning setting deeper more) (node_meaning setting deeper n e).environment free (among r))

    inside : {n : Node} {e : Environment} → RanIn setting deeper name n e → IsSome ((node_meaning setting deeper n e).environment.assigned name)
    inside (the_assign {d = d} {e = e} h) = given name _ _ e d h (held_assign name d e)
    inside (in_if {body = body} {otherwise = otherwise} {holds = holds} {e = e} h r) = given name _ _ e holds h (chosen holds body otherwise e (among r))
    inside (in_unless {body = body} {otherwise = otherwise} {holds = holds} {e = e} h r) = given name _ _ e holds h (chosen holds otherwise body e (among r))
    inside (in_capture {target = target} {body = body} {e = e} r) =
        held_then name (buffered (nodes_meaning setting deeper body)) _ e (λ t. stays_assign target _) (held_buffered name (nodes_meaning setting deeper body) e (among r))
    inside (in_ifchanged {body = body} {e = e} r) =
        held_then name (buffered (nodes_meaning setting deeper body)) _ e (λ t. stays_bind (stays_read _) (λ last. stays_bind (stays_cond _ (stays_done tt) (stays_write t)) (λ a. stays_change _ (λ e. refl))))
        (held_buffered name (nodes_meaning setting deeper body) e (among r))
    inside (in_filtered {body = body} {e = e} r) =
        held_then name (buffered (nodes_meaning setting deeper body)) _ e (λ t. stays_bind (stays_evaluate _) (λ d. stays_write _)) (held_buffered name (nodes_meaning setting deeper body) e (among r))
    inside (in_for {all = all} {items = items} {d = d} {e = e} in_source in_window r) =
        given name _ _ e all in_source (given name _ _ e (d ∷ items) in_window (known name _ _ e (turns r)))
    inside (in_tablerow {variable = variable} {body = body} {all = all} {items = items} {asked = asked} {d = d} {e = e} in_source in_columns in_window some r) =
        given name _ _ e all in_source (given name _ _ e asked in_columns (given name _ _ e (d ∷ items) in_window
        (rowed name variable (columns_of (length (d ∷ items)) asked) (nodes_meaning setting deeper body) d items e some (cells r))))

    turns : {variable : Text} {parent : Datum} {m : ℕ} {body : Nodes} {k : ℕ} {ds : List Datum} {e : Environment} → RanAtItem setting deeper name variable parent m body k ds e
        → IsSome ((until_break (loop_turn variable parent m (nodes_meaning setting deeper body)) k ds e).environment.assigned name)
    turns (at_item {variable = variable} {parent = parent} {d = d} {m = m} {k = k} {body = body} {ds = ds} {e = e} r) =
        held_then name (loop_turn variable parent m (nodes_meaning setting deeper body) k d) _ e (λ left. stays_cond _ (stays_done tt) (stays_until_break _ (stays_turn variable parent m body) (suc k) ds))
        (held_then name (with_scope (for_scope variable parent m k d) (nodes_meaning setting deeper body)) _ e (λ a. stays_take_interrupt)
        (held_scope name (for_scope variable parent m k d) (nodes_meaning setting deeper body) e (among r)))
    turns (at_later {variable = variable} {parent = parent} {d = d} {m = m} {k = k} {body = body} {ds = ds} {left = left} {e = e} ended free r) =
        held_after name (loop_turn variable parent m (nodes_meaning setting deeper body) k d) _ e left ended
        (held_cond name (is_break left) (done tt) (until_break (loop_turn variable parent m (nodes_meaning setting deeper body)) (suc k) ds) _ free (turns r))

    cells : {variable : Text} {columns m : ℕ} {body : Nodes} {k : ℕ} {ds : List Datum} {e : Environment} → RanInCell setting deeper name variable columns m body k ds e
        → IsSome ((for_all (cell variable columns m (nodes_meaning setting deeper body)) k ds e).environment.assigned name)
    cells (in_cell {variable = variable} {d = d} {columns = columns} {m = m} {k = k} {body = body} {ds = ds} {e = e} r) =
        held_then name (cell variable columns m (nodes_meaning setting deeper body) k d) _ e (λ a. stays_for_all _ (stays_cell variable columns m body) (suc k) ds)
        (written name _ _ e (held_then name (with_scope (row_scope variable columns m k d) (nodes_meaning setting deeper body)) _ e (λ a. stays_write _)
        (held_scope name (row_scope variable columns m k d) (nodes_meaning setting deeper body) e (among r))))
    cells (in_later {variable = variable} {d = d} {columns = columns} {m = m} {k = k} {body = body} {ds = ds} {e = e} ended r) =
        held_after name (cell variable columns m (nodes_meaning setting deeper body) k d) _ e tt ended (cells r)

pub assigned_anywhere : AssignedAnywhere
unfolding meaning
assigned_anywhere setting depth nodes e name r = among name setting (deeper_meaning setting depth) (deeper_stays name setting depth) r
