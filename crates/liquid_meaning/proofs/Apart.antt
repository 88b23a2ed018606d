-- A `render` leaves the environment as it is.
use Rattle.std.specs.Prelude.{◌≡◌, ℕ, suc, Bool, true, false, cond, List, [], ◌∷◌, ◌++◌, Option, Some, None, Result, Ok, Err}
use mathlib.Core.Path.{refl, sym, ap, subst₂, ◌∙◌}
use Rattle.liquid_model.specs.Texts.{Text}
use Rattle.liquid_model.specs.Data.{Datum}
use Rattle.liquid_model.specs.declared.error.ErrorKind.{ErrorKind}
use Rattle.liquid_core.specs.Expression.{Expression}
use Rattle.liquid_evaluation.specs.Tree.{Source, Bindings, Nodes, render}
use Rattle.liquid_model.specs.Maps.{Map}
use Rattle.liquid_core.specs.Environment.{Environment, own_environment}
use Rattle.liquid_core.specs.declared.interrupt.Interrupt.{Interrupt}
use Rattle.liquid_meaning.specs.Runs.{Nothing, Outcome, Run, done, evaluate, go_on, ◌>>=◌, ended_with, apart}
use Rattle.liquid_meaning.specs.Effects.{if_none, unless_interrupted}
use Rattle.liquid_meaning.specs.Loops.{until_break}
use Rattle.liquid_meaning.specs.Meaning.{Setting, partial_name_text, render_apart, node_meaning, nodes_meaning, deeper_meaning, meaning}
use Rattle.liquid_meaning.specs.Isolation.{RenderLeavesAll, RenderSeesItsValues, items_of_render}
use Rattle.liquid_meaning.proofs.Steps.{alone}
use Rattle.liquid_evaluation.specs.Evaluation.{bound_values}

record LeavesAll {A : Type 0} (m : Run A) : Type 0 where
  leaves : (e : Environment) → (m e).environment ≡ e

leaves_evaluate : {A : Type 0} (x : Environment → Result A ErrorKind) → LeavesAll (evaluate x)
unfolding evaluate
leaves_evaluate x = record { leaves = λ e. refl }

leaves_done : {A : Type 0} (a : A) → LeavesAll (done a)
unfolding done
leaves_done a = record { leaves = λ e. refl }

leaves_apart : {A : Type 0} (names : Map Datum) (m : Run A) → LeavesAll (apart names m)
unfolding apart
leaves_apart names m = record { leaves = λ e. refl }

leaves_bind : {A B : Type 0} {m : Run A} {k : A → Run B} → LeavesAll m → ((a : A) → LeavesAll (k a)) → LeavesAll (m >>= k)
unfolding ◌>>=◌
leaves_bind {A = A} {m = m} {k = k} im ik = record { leaves = λ e. on (m e).text (m e).environment (m e).end ∙ im.leaves e }
  where
    on : (t : Text) (e : Environment) (x : Result A ErrorKind) → (go_on k t e x).environment ≡ e
    on t e (Ok a) = (ik a).leaves e
    on t e (Err kind) = refl

leaves_cond : {A : Type 0} {m n : Run A} (b : Bool) → LeavesAll m → LeavesAll n → LeavesAll (cond b m n)
leaves_cond true i j = i
leaves_cond false i j = j

leaves_until_break : (one : ℕ → Datum → Run (Option Interrupt)) → ((k : ℕ) (d : Datum) → LeavesAll (one k d)) → (k : ℕ) (ds : List Datum) → LeavesAll (until_break one k ds)
unfolding until_break
leaves_until_break one i k [] = leaves_done tt
leaves_until_break one i k (d ∷ ds) = leaves_bind (i k d) (λ left. leaves_cond _ (leaves_done tt) (leaves_until_break one i (suc k) ds))

leaves_unless : {m : Run Nothing} → LeavesAll m → LeavesAll (unless_interrupted m)
unfolding unless_interrupted
leaves_unless {m = m} im = record { leaves = λ e. at e e.registers.interrupt }
  where
    at : (e : Environment) (i : Option Interrupt) → (if_none i m e).environment ≡ e
    at e None = im.leaves e
    at e (Some i) = (leaves_done tt).leaves e

module _ (setting : Setting) (deeper : Nodes → Run Nothing) where
  leaves_render_apart : (name : Text) (bindings : Bindings) (loop : Map Datum) → LeavesAll (render_apart setting deeper name bindings loop)
  leaves_render_apart name bindings loop = leaves_bind (leaves_evaluate _) (λ pairs. leaves_bind (leaves_evaluate _) (λ partial. leaves_apart _ _))

  leaves_render : (x : Expression) (each : Option (Source × Text)) (bindings : Bindings) → LeavesAll (node_meaning setting deeper (render x each bindings))
  unfolding node_meaning
  leaves_render x None bindings = leaves_bind (leaves_evaluate _) (λ name. leaves_bind (leaves_render_apart name bindings _) (λ left. leaves_done tt))
  leaves_render x (Some each) bindings = leaves_bind (leaves_evaluate _) (λ name. leaves_bind (leaves_evaluate _) (λ items. leaves_until_break _ (λ k d. leaves_render_apart name bindings _) 0 items))

pub render_leaves_all : RenderLeavesAll
unfolding meaning nodes_meaning
render_leaves_all setting depth x each bindings e = (leaves_bind (leaves_render setting (deeper_meaning setting depth) x each bindings) (λ a. leaves_unless (leaves_done tt))).leaves e

-- ---- what a `render` writes

-- o left e and p left f as they were, with the same text and end
record SameOf (e f : Environment) {A : Type 0} (o p : Outcome A) : Type 0 where
  text : o.text ≡ p.text
  end : o.end ≡ p.end
  first : o.environment ≡ e
  second : p.environment ≡ f

-- m is the same in both environments, and leaves them as they were
record SameIn (e f : Environment) {A : Type 0} (m : Run A) : Type 0 where
  outcomes : SameOf e f (m e) (m f)

module _ {e f : Environment} (alike : e.missing ≡ f.missing) where
  same_evaluate : {A : Type 0} (x : Environment → Result A ErrorKind) → x e ≡ x f → SameIn e f (evaluate x)
  unfolding evaluate
  same_evaluate x is = record { outcomes = record { text = refl; end = is; first = refl; second = refl } }

  same_done : {A : Type 0} (a : A) → SameIn e f (done a)
  unfolding done
  same_done a = record { outcomes = record { text = refl; end = refl; first = refl; second = refl } }

  same_apart : {A : Type 0} (names : Map Datum) (m : Run A) → SameIn e f (apart names m)
  unfolding apart
  same_apart names m = record {
    outcomes = record {
      text = ap (λ x. (m (own_environment x names)).text) alike;
      end = ap (λ x. ended_with (m (own_environment x names)).environment.registers.interrupt (m (own_environment x names)).end) alike;
      first = refl;
      second = refl;
    };
  }

  same_bind : {A B : Type 0} {m : Run A} {k : A → Run B} → SameIn e f m → ((a : A) → SameIn e f (k a)) → SameIn e f (m >>= k)
  unfolding ◌>>=◌ go_on
  same_bind {A = A} {B = B} {m = m} {k = k} im ik =
      let r = im.outcomes in
      record { outcomes = subst₂ (λ o p. SameOf e f {A = B} o p) (λ i. go_on k (m e).text (sym r.first i) (m e).end) (λ i. go_on k (r.text i) (sym r.second i) (r.end i)) (on (m e).text (m e).end) }
    where
      on : (t : Text) (x : Result A ErrorKind) → SameOf e f (go_on k t e x) (go_on k t f x)
      on t (Ok a) =
          let r = (ik a).outcomes in
          record { text = ap (λ s. t ++ s) r.text; end = r.end; first = r.first; second = r.second }
      on t (Err kind) = record { text = refl; end = refl; first = refl; second = refl }

  same_cond : {A : Type 0} {m n : Run A} (b : Bool) → SameIn e f m → SameIn e f n → SameIn e f (cond b m n)
  same_cond true i j = i
  same_cond false i j = j

  same_until_break : (one : ℕ → Datum → Run (Option Interrupt)) → ((k : ℕ) (d : Datum) → SameIn e f (one k d)) → (k : ℕ) (ds : List Datum) → SameIn e f (until_break one k ds)
  unfolding until_break
  same_until_break one i k [] = same_done tt
  same_until_break one i k (d ∷ ds) = same_bind (i k d) (λ left. same_cond _ (same_done tt) (same_until_break one i (suc k) ds))

  module _ (setting : Setting) (deeper : Nodes → Run Nothing) where
    same_render_apart : (name : Text) (bindings : Bindings) (over : Map Datum) → bound_values bindings e ≡ bound_values bindings f → SameIn e f (render_apart setting deeper name bindings over)
    same_render_apart name bindings over is = same_bind (same_evaluate _ is) (λ pairs. same_bind (same_evaluate _ refl) (λ partial. same_apart _ _))

    same_render : (x : Expression) (each : Option (Source × Text)) (bindings : Bindings) → partial_name_text x e ≡ partial_name_text x f → items_of_render each e ≡ items_of_render each f → bound_values bindings e ≡ bound_values bindings f
        → SameIn e f (node_meaning setting deeper (render x each bindings))
    unfolding node_meaning
    same_render x None bindings in_name in_items in_pairs = same_bind (same_evaluate _ in_name) (λ name. same_bind (same_render_apart name bindings _ in_pairs) (λ left. same_done tt))
    same_render x (Some each) bindings in_name in_items in_pairs = same_bind (same_evaluate _ in_name) (λ name. same_bind (same_evaluate _ in_items) (λ items. same_until_break _ (λ k d. same_render_apart name bindings _ in_pairs) 0 items))

pub render_sees_its_values : RenderSeesItsValues
unfolding meaning
render_sees_its_values setting depth x each bindings e f alike in_name in_items in_pairs =
    let r = (same_render alike setting (deeper_meaning setting depth) x each bindings in_name in_items in_pairs).outcomes in
    let n = render x each bindings in
    let deeper = deeper_meaning setting depth in (
      ap (λ o. o.text) (alone setting deeper n e) ∙ (r.text ∙ ap (λ o. o.text) (sym (alone setting deeper n f))),
      ap (λ o. o.end) (alone setting deeper n e) ∙ (r.end ∙ ap (λ o. o.end) (sym (alone setting deeper n f))),
    )
