-- Isolated runs, and how they are put together.
use Rattle.std.specs.Prelude.{◌≡◌, ℕ, suc, Bool, true, false, cond, List, [], ◌∷◌, ◌++◌, Option, Result, Ok, Err}
use mathlib.Core.Path.{refl, ap, subst₂, ◌∙◌}
use Rattle.liquid_model.specs.Texts.{Text}
use Rattle.liquid_model.specs.Data.{Datum}
use Rattle.liquid_model.specs.declared.error.ErrorKind.{ErrorKind}
use Rattle.liquid_model.specs.Maps.{Map, merged}
use Rattle.liquid_core.specs.Environment.{Names, Environment, own_environment}
use Rattle.liquid_core.specs.declared.interrupt.Interrupt.{Interrupt}
use Rattle.liquid_meaning.specs.Runs.{Nothing, Outcome, Run, done, read_environment, evaluate, fault, change, write, go_on, ◌>>=◌, with_scope, ended_with, buffered, apart}
use Rattle.liquid_meaning.specs.Loops.{until_break, for_all}
use Rattle.liquid_meaning.specs.Isolation.{KeepsOthers}
use Rattle.liquid_meaning.proofs.Maps.{AgreeAt, agree_merged}

-- e and f hold the same under the names of N, and have the same registers; a missing value is the
-- same in both
pub record AgreeOn (N : Names) (e f : Environment) : Type 0 where
  pub local : AgreeAt N e.local f.local
  pub assigned : AgreeAt N e.assigned f.assigned
  pub counters : AgreeAt N e.counters f.counters
  pub globals : AgreeAt N e.globals f.globals
  pub registers : e.registers ≡ f.registers
  pub missing : e.missing ≡ f.missing

-- o, which m gave from e, and p
pub record Alike {A : Type 0} (N : Names) (e : Environment) (o p : Outcome A) : Type 0 where
  pub text : o.text ≡ p.text
  pub end : o.end ≡ p.end
  pub agree : AgreeOn N o.environment p.environment
  pub kept : KeepsOthers N e o.environment

abbrev pub Isolated : {A : Type 0} → Names → Run A → Type 0
Isolated N m = (e f : Environment) → AgreeOn N e f → Alike N e (m e) (m f)

module _ (N : Names) where
  pub kept_here : (e : Environment) → KeepsOthers N e e
  kept_here e = record { local = refl; globals = refl; missing = refl; assigned = λ name h. refl; counters = λ name h. refl }

  pub kept_on : {e f g : Environment} → KeepsOthers N e f → KeepsOthers N f g → KeepsOthers N e g
  kept_on k l = record { local = l.local ∙ k.local; globals = l.globals ∙ k.globals; missing = l.missing ∙ k.missing; assigned = λ name h. l.assigned name h ∙ k.assigned name h; counters = λ name h. l.counters name h ∙ k.counters name h }

module _ {N : Names} where
  pub isolated_done : {A : Type 0} (a : A) → Isolated N (done a)
  unfolding done
  isolated_done a e f h = record { text = refl; end = refl; agree = h; kept = kept_here N e }

  pub isolated_fault : {A : Type 0} (kind : ErrorKind) → Isolated N (fault {A = A} kind)
  unfolding fault
  isolated_fault kind e f h = record { text = refl; end = refl; agree = h; kept = kept_here N e }

  pub isolated_write : (t : Text) → Isolated N (write t)
  unfolding write
  isolated_write t e f h = record { text = refl; end = refl; agree = h; kept = kept_here N e }

  pub isolated_read : {A : Type 0} (x : Environment → A) → ((e f : Environment) → AgreeOn N e f → x e ≡ x f) → Isolated N (read_environment x)
  unfolding read_environment
  isolated_read x same e f h = record { text = refl; end = ap Ok (same e f h); agree = h; kept = kept_here N e }

  pub isolated_evaluate : {A : Type 0} (x : Environment → Result A ErrorKind) → ((e f : Environment) → AgreeOn N e f → x e ≡ x f) → Isolated N (evaluate x)
  unfolding evaluate
  isolated_evaluate x same e f h = record { text = refl; end = same e f h; agree = h; kept = kept_here N e }

  pub isolated_change : (x : Environment → Environment) → ((e f : Environment) → AgreeOn N e f → AgreeOn N (x e) (x f)) → ((e : Environment) → KeepsOthers N e (x e)) → Isolated N (change x)
  unfolding change
  isolated_change x agree kept e f h = record { text = refl; end = refl; agree = agree e f h; kept = kept e }

  go_on_alike : {A B : Type 0} (k : A → Run B) → ((a : A) → Isolated N (k a)) → (t : Text) (e g h : Environment) (x : Result A ErrorKind) → KeepsOthers N e g → AgreeOn N g h → Alike N e (go_on k t g x) (go_on k t h x)
  unfolding go_on
  go_on_alike k ik t e g h (Ok a) kept agree =
      let r = ik a g h agree in
      record { text = ap (λ s. t ++ s) r.text; end = r.end; agree = r.agree; kept = kept_on N kept r.kept }
  go_on_alike k ik t e g h (Err kind) kept agree = record { text = refl; end = refl; agree = agree; kept = kept }

  pub isolated_bind : {A B : Type 0} {m : Run A} {k : A → Run B} → Isolated N m → ((a : A) → Isolated N (k a)) → Isolated N (m >>= k)
  unfolding ◌>>=◌
  isolated_bind {m = m} {k = k} im ik e f h =
      let r = im e f h in
      subst₂ (λ t x. Alike N e (go_on k (m e).text (m e).environment (m e).end) (go_on k t (m f).environment x)) r.text r.end
      (go_on_alike k ik (m e).text e (m e).environment (m f).environment (m e).end r.kept r.agree)

  pub isolated_cond : {A : Type 0} {m n : Run A} (b : Bool) → Isolated N m → Isolated N n → Isolated N (cond b m n)
  isolated_cond true i j = i
  isolated_cond false i j = j

  pub isolated_with_scope : {A : Type 0} {m : Run A} (scope : Map Datum) → Isolated N m → Isolated N (with_scope scope m)
  unfolding with_scope
  isolated_with_scope scope im e f h =
      let r = im (record e { local = merged scope e.local }) (record f { local = merged scope f.local }) (record { local = agree_merged N scope _ _ h.local; assigned = h.assigned; counters = h.counters; globals = h.globals; registers = h.registers; missing = h.missing }) in
      record {
        text = r.text;
        end = r.end;
        agree = record { local = h.local; assigned = r.agree.assigned; counters = r.agree.counters; globals = r.agree.globals; registers = r.agree.registers; missing = r.agree.missing };
        kept = record { local = refl; globals = r.kept.globals; missing = r.kept.missing; assigned = r.kept.assigned; counters = r.kept.counters };
      }

  pub isolated_buffered : {A : Type 0} {m : Run A} → Isolated N m → Isolated N (buffered m)
  unfolding buffered
  isolated_buffered im e f h =
      let r = im e f h in
      record { text = refl; end = λ i. ended_with (r.text i) (r.end i); agree = r.agree; kept = r.kept }

  -- whatever m is: it sees nothing of the environment but what a missing value is
  pub isolated_apart : {A : Type 0} (names : Map Datum) (m : Run A) → Isolated N (apart names m)
  unfolding apart
  isolated_apart names m e f h = record {
    text = ap (λ x. (m (own_environment x names)).text) h.missing;
    end = ap (λ x. ended_with (m (own_environment x names)).environment.registers.interrupt (m (own_environment x names)).end) h.missing;
    agree = h;
    kept = kept_here N e;
  }

  pub isolated_for_all : (one : ℕ → Datum → Run Nothing) → ((k : ℕ) (d : Datum) → Isolated N (one k d)) → (k : ℕ) (ds : List Datum) → Isolated N (for_all one k ds)
  unfolding for_all
  isolated_for_all one i k [] = isolated_done tt
  isolated_for_all one i k (d ∷ ds) = isolated_bind (i k d) (λ a. isolated_for_all one i (suc k) ds)

  pub isolated_until_break : (one : ℕ → Datum → Run (Option Interrupt)) → ((k : ℕ) (d : Datum) → Isolated N (one k d)) → (k : ℕ) (ds : List Datum) → Isolated N (until_break one k ds)
  unfolding until_break
  isolated_until_break one i k [] = isolated_done tt
  isolated_until_break one i k (d ∷ ds) = isolated_bind (i k d) (λ left. isolated_cond _ (isolated_done tt) (isolated_until_break one i (suc k) ds))
