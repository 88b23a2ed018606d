-- Laws of runs.
use Rattle.std.specs.Prelude.{◌≡◌, ℕ, suc, ◌+◌, ◌-◌, cond, List, [], ◌∷◌, Option, Some, Result, Ok, Err, IsSome}
use mathlib.Core.Path.{refl, sym, subst, ◌∙◌}
use native.Mathlib.Omega.{arith}
use Rattle.liquid_model.specs.Texts.{Text}
use Rattle.liquid_model.specs.Data.{Datum}
use Rattle.liquid_model.specs.declared.error.ErrorKind.{ErrorKind}
use Rattle.liquid_core.specs.declared.interrupt.Interrupt.{Interrupt}
use Rattle.liquid_model.specs.Maps.{Map, insert, merged}
use Rattle.liquid_model.proofs.Maps.{same_key}
use Rattle.liquid_core.specs.Environment.{Environment}
use Rattle.liquid_evaluation.specs.Tree.{Chain, Source, Window, Nodes, node, assign, plain, for_each}
use Rattle.liquid_evaluation.specs.Evaluation.{source_items, selected_items}
use Rattle.liquid_meaning.specs.Runs.{Nothing, Run, evaluate, change, write, go_on, ◌>>=◌, with_scope}
use Rattle.liquid_meaning.specs.Effects.{assigned_to}
use Rattle.liquid_meaning.specs.Loops.{until_break, loop}
use Rattle.liquid_meaning.specs.Meaning.{Setting, node_meaning, nodes_meaning, deeper_meaning, meaning}
use Rattle.liquid_meaning.specs.Laws.{TextIsItself, AssignedStay, AssignedInLoop, ForloopCountsItems}
use Rattle.liquid_meaning.proofs.Steps.{alone}
use Rattle.liquid_meaning.proofs.Stays.{Stays, Assigns, stays_bind, stays_done, stays_cond, stays_with_scope, stays_until_break, stays_take_interrupt, stays_unless, nodes_stay, deeper_stays}

text_written : (setting : Setting) (deeper : Nodes → Run Nothing) (t : Text) (e : Environment) → node_meaning setting deeper (plain t) e ≡ record { text = t; environment = e; end = Ok tt }
unfolding node_meaning write
text_written setting deeper t e = refl

pub text_is_itself : TextIsItself
unfolding meaning
text_is_itself setting depth t e = alone setting (deeper_meaning setting depth) (plain t) e ∙ text_written setting (deeper_meaning setting depth) t e

pub assigned_stay : AssignedStay
unfolding meaning
assigned_stay setting depth nodes e name h = (nodes_stay setting (deeper_meaning setting depth) (deeper_stays name setting depth) nodes).stays e h

pub forloop_counts : ForloopCountsItems
forloop_counts k m parent h = record {
  index0 = k;
  index = k + 1;
  rindex0 = m - k - 1;
  length = m;
  holds_index0 = refl;
  holds_index = refl;
  holds_rindex0 = refl;
  holds_length = refl;
  one_more = refl;
  together = omega arith;
}

-- ---- what is assigned in a loop

module _ {name : Text} where
  -- what the first part assigns, the second leaves
  assigns_first : {A B : Type 0} {m : Run A} {k : A → Run B} → Assigns name m → ((a : A) → Stays name (k a)) → Assigns name (m >>= k)
  unfolding ◌>>=◌ go_on
  assigns_first {A = A} {B = B} {m = m} {k = k} im ik = record { assigns = λ e b h. on e (m e).text (m e).environment (m e).end (im.assigns e) b h }
    where
      on : (e : Environment) (t : Text) (g : Environment) (x : Result A ErrorKind) → ((a : A) → x ≡ Ok a → IsSome (g.assigned name)) → (b : B) → (go_on k t g x).end ≡ Ok b → IsSome ((go_on k t g x).environment.assigned name)
      on e t g (Ok a) some b h = (ik a).stays g (some a refl)
      on e t g (Err kind) some b h = grind arith

  -- what the second part assigns
  assigns_second : {A B : Type 0} (m : Run A) {k : A → Run B} → ((a : A) → Assigns name (k a)) → Assigns name (m >>= k)
  unfolding ◌>>=◌ go_on
  assigns_second {A = A} {B = B} m {k = k} ik = record { assigns = λ e b h. on (m e).text (m e).environment (m e).end b h }
    where
      on : (t : Text) (g : Environment) (x : Result A ErrorKind) (b : B) → (go_on k t g x).end ≡ Ok b → IsSome ((go_on k t g x).environment.assigned name)
      on t g (Ok a) b h = (ik a).assigns g b h
      on t g (Err kind) b h = grind arith

  assigns_scope : {A : Type 0} {m : Run A} (scope : Map Datum) → Assigns name m → Assigns name (with_scope scope m)
  unfolding with_scope
  assigns_scope scope im = record { assigns = λ e a h. im.assigns (record e { local = merged scope e.local }) a h }

  assigns_change : (d : Datum) → Assigns name (change (assigned_to name d))
  unfolding change insert
  assigns_change d = record { assigns = λ e a h. subst (λ b. IsSome (cond b (Some d) (e.assigned name))) (sym (same_key name)) refl }

  -- the first of some items
  assigns_until_break : (one : ℕ → Datum → Run (Option Interrupt)) → ((k : ℕ) (d : Datum) → Assigns name (one k d)) → ((k : ℕ) (d : Datum) → Stays name (one k d))
      → (k : ℕ) (d : Datum) (ds : List Datum) → Assigns name (until_break one k (d ∷ ds))
  unfolding until_break
  assigns_until_break one i s k d ds = assigns_first (i k d) (λ left. stays_cond _ (stays_done tt) (stays_until_break one s (suc k) ds))

  assigns_loop : {m : Run Nothing} (variable : Text) (parent d : Datum) (ds : List Datum) → Assigns name m → Stays name m → Assigns name (loop variable parent (d ∷ ds) m)
  unfolding loop
  assigns_loop variable parent d ds i s = assigns_until_break _ (λ k c. assigns_first (assigns_scope _ i) (λ a. stays_take_interrupt)) (λ k c. stays_bind (stays_with_scope _ s) (λ a. stays_take_interrupt)) 0 d ds

-- on from a value that is known
given : {A : Type 0} (name : Text) (x : Environment → Result A ErrorKind) (k : A → Run Nothing) (e : Environment) (a : A) → x e ≡ Ok a → ((k a e).end ≡ Ok tt → IsSome ((k a e).environment.assigned name))
    → ((evaluate x >>= k) e).end ≡ Ok tt → IsSome (((evaluate x >>= k) e).environment.assigned name)
unfolding ◌>>=◌ go_on evaluate
given name x k e a is on = subst (λ r. (go_on k [] e r).end ≡ Ok tt → IsSome ((go_on k [] e r).environment.assigned name)) (sym is) on

-- a list that begins with an `assign`
assigns_list : (setting : Setting) (deeper : Nodes → Run Nothing) (target : Text) (chain : Chain) (more : Nodes) → ((nodes : Nodes) → Stays target (deeper nodes)) → Assigns target (nodes_meaning setting deeper (node (assign target chain) more))
unfolding node_meaning nodes_meaning
assigns_list setting deeper target chain more i = assigns_first (assigns_second _ (λ d. assigns_change d)) (λ a. stays_unless (nodes_stay setting deeper i more))

assigned_in_for : (setting : Setting) (deeper : Nodes → Run Nothing) (name : Text) (source : Source) (window : Window) (target : Text) (chain : Chain) (more otherwise : Nodes) (e : Environment)
    (all items : List Datum) (d : Datum) → ((nodes : Nodes) → Stays target (deeper nodes))
    → source_items source e ≡ Ok all → selected_items window all e ≡ Ok (d ∷ items)
    → (let o = node_meaning setting deeper (for_each name source window (node (assign target chain) more) otherwise) e in o.end ≡ Ok tt → IsSome (o.environment.assigned target))
unfolding node_meaning
assigned_in_for setting deeper name source window target chain more otherwise e all items d i in_source in_window =
    given target _ _ e all in_source (given target _ _ e (d ∷ items) in_window (λ h. (assigns_second _ (λ parent. assigns_loop name parent d items (assigns_list setting deeper target chain more i) (nodes_stay setting deeper i (node (assign target chain) more)))).assigns e tt h))

pub assigned_in_loop : AssignedInLoop
unfolding meaning
assigned_in_loop setting depth name source window target chain more otherwise e all items d in_source in_window =
    subst (λ o. o.end ≡ Ok tt → IsSome (o.environment.assigned target)) (sym (alone setting (deeper_meaning setting depth) _ e))
    (assigned_in_for setting (deeper_meaning setting depth) name source window target chain more otherwise e all items d (deeper_stays target setting depth) in_source in_window)
