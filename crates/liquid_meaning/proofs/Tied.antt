-- Pairs of runs that write the same and end alike from environments that are alike, and how they are put together.
use Rattle.std.specs.Prelude.{◌≡◌, ℕ, suc, Bool, true, false, cond, List, [], ◌∷◌, ◌++◌, Option, Some, Result, Ok, Err}
use mathlib.Core.Path.{refl, ap, subst}
use Rattle.liquid_model.specs.Texts.{Text}
use Rattle.liquid_model.specs.Data.{Datum}
use Rattle.liquid_model.specs.declared.error.ErrorKind.{ErrorKind}
use Rattle.liquid_model.specs.Maps.{Map, merged}
use Rattle.liquid_core.specs.Environment.{Environment, own_environment}
use Rattle.liquid_core.specs.declared.missing_value.Missing.{Missing}
use Rattle.liquid_core.specs.declared.interrupt.Interrupt.{Interrupt}
use Rattle.liquid_meaning.specs.Runs.{Nothing, Outcome, Run, done, read_environment, evaluate, fault, change, write, go_on, ◌>>=◌, with_scope, ended_with, buffered, apart}
use Rattle.liquid_meaning.specs.Effects.{is_break}
use Rattle.liquid_meaning.specs.Loops.{until_break, for_all}
use Rattle.liquid_model.specs.Uses.{Use, Alike}
use Rattle.liquid_meaning.specs.Reading.{Uses}
use Rattle.liquid_meaning.specs.Reads.{AlikeMaps, AlikeIn, Both}
use Rattle.liquid_meaning.proofs.AlikeMaps.{alike_empty, alike_merged}
use Rattle.liquid_meaning.proofs.Seen.{Same, both_equal}
use Rattle.liquid_model.proofs.Alike.{AlikeLists}

pub record TiedOutcomes {A : Type 0} (U : Uses) (R : A → A → Type 0) (o p : Outcome A) : Type 0 where
  pub text : o.text ≡ p.text
  pub end : Both R o.end p.end
  pub left : AlikeIn U o.environment p.environment

abbrev pub Tied : {A : Type 0} → Uses → (A → A → Type 0) → Run A → Run A → Type 0
Tied U R m n = (e f : Environment) → AlikeIn U e f → TiedOutcomes U R (m e) (n f)

ended_alike : {A B : Type 0} (R : A → A → Type 0) (b c : B) (x y : Result A ErrorKind) → Both R x y → b ≡ c → Both Same (ended_with b x) (ended_with c y)
ended_alike R b c (Ok d) (Ok e) r is = is
ended_alike R b c (Ok d) (Err l) r is = absurd r
ended_alike R b c (Err k) (Ok e) r is = absurd r
ended_alike R b c (Err k) (Err l) r is = r

module _ {U : Uses} where
  pub tied_done : {A : Type 0} (R : A → A → Type 0) (a b : A) → R a b → Tied U R (done a) (done b)
  unfolding done
  tied_done R a b r e f h = record { text = refl; end = r; left = h }

  pub tied_fault : {A : Type 0} (R : A → A → Type 0) (kind : ErrorKind) → Tied U R (fault kind) (fault kind)
  unfolding fault
  tied_fault R kind e f h = record { text = refl; end = refl; left = h }

  pub tied_write : (t : Text) → Tied U Same (write t) (write t)
  unfolding write
  tied_write t e f h = record { text = refl; end = refl; left = h }

  pub tied_read : {A : Type 0} (R : A → A → Type 0) (x y : Environment → A) → ((e f : Environment) → AlikeIn U e f → R (x e) (y f)) → Tied U R (read_environment x) (read_environment y)
  unfolding read_environment
  tied_read R x y r e f h = record { text = refl; end = r e f h; left = h }

  pub tied_evaluate : {A : Type 0} (R : A → A → Type 0) (x y : Environment → Result A ErrorKind) → ((e f : Environment) → AlikeIn U e f → Both R (x e) (y f)) → Tied U R (evaluate x) (evaluate y)
  unfolding evaluate
  tied_evaluate R x y r e f h = record { text = refl; end = r e f h; left = h }

  -- equal values
  pub tied_value : {A : Type 0} (x y : Environment → Result A ErrorKind) → ((e f : Environment) → AlikeIn U e f → x e ≡ y f) → Tied U Same (evaluate x) (evaluate y)
  tied_value x y same = tied_evaluate Same x y (λ e f h. both_equal Same (λ a. refl) (x e) (y f) (same e f h))

  pub tied_change : (x y : Environment → Environment) → ((e f : Environment) → AlikeIn U e f → AlikeIn U (x e) (y f)) → Tied U Same (change x) (change y)
  unfolding change
  tied_change x y left e f h = record { text = refl; end = refl; left = left e f h }

  go_on_tied : {A B : Type 0} (R : A → A → Type 0) (S : B → B → Type 0) (k l : A → Run B) → ((a b : A) → R a b → Tied U S (k a) (l b))
      → (t : Text) (e f : Environment) (x y : Result A ErrorKind) → Both R x y → AlikeIn U e f → TiedOutcomes U S (go_on k t e x) (go_on l t f y)
  unfolding go_on
  go_on_tied R S k l g t e f (Ok a) (Ok b) r h =
      let o = g a b r e f h in
      record { text = ap (λ s. t ++ s) o.text; end = o.end; left = o.left }
  go_on_tied R S k l g t e f (Ok a) (Err d) r h = absurd r
  go_on_tied R S k l g t e f (Err c) (Ok b) r h = absurd r
  go_on_tied R S k l g t e f (Err c) (Err d) r h = record { text = refl; end = r; left = h }

  pub tied_bind : {A B : Type 0} {R : A → A → Type 0} {S : B → B → Type 0} {m n : Run A} {k l : A → Run B} → Tied U R m n → ((a b : A) → R a b → Tied U S (k a) (l b)) → Tied U S (m >>= k) (n >>= l)
  unfolding ◌>>=◌
  tied_bind {R = R} {S = S} {m = m} {n = n} {k = k} {l = l} mn kl e f h =
      let r = mn e f h in
      subst (λ t. TiedOutcomes U S (go_on k (m e).text (m e).environment (m e).end) (go_on l t (n f).environment (n f).end)) r.text
      (go_on_tied R S k l kl (m e).text (m e).environment (n f).environment (m e).end (n f).end r.end r.left)

  -- first the same value, and then the same for it
  pub tied_then : {A B : Type 0} {S : B → B → Type 0} {m n : Run A} {k l : A → Run B} → Tied U Same m n → ((a : A) → Tied U S (k a) (l a)) → Tied U S (m >>= k) (n >>= l)
  tied_then {S = S} {k = k} {l = l} mn kl = tied_bind mn (λ a b is. subst (λ c. Tied U S (k a) (l c)) is (kl a))

  pub tied_cond : {A : Type 0} {R : A → A → Type 0} {m n o p : Run A} (b : Bool) → Tied U R m n → Tied U R o p → Tied U R (cond b m o) (cond b n p)
  tied_cond true i j = i
  tied_cond false i j = j

  pub tied_with_scope : {A : Type 0} {R : A → A → Type 0} {m n : Run A} (s t : Map Datum) → AlikeMaps U s t → Tied U R m n → Tied U R (with_scope s m) (with_scope t n)
  unfolding with_scope
  tied_with_scope s t a mn e f h =
      let r = mn (record e { local = merged s e.local }) (record f { local = merged t f.local }) (record { local = alike_merged U s t e.local f.local a h.local; assigned = h.assigned; counters = h.counters; globals = h.globals; registers = h.registers; missing = h.missing }) in
      record {
        text = r.text;
        end = r.end;
        left = record { local = h.local; assigned = r.left.assigned; counters = r.left.counters; globals = r.left.globals; registers = r.left.registers; missing = r.left.missing };
      }

  pub tied_buffered : {A : Type 0} {R : A → A → Type 0} {m n : Run A} → Tied U R m n → Tied U Same (buffered m) (buffered n)
  unfolding buffered
  tied_buffered {R = R} {m = m} {n = n} mn e f h =
      let r = mn e f h in
      record { text = refl; end = ended_alike R (m e).text (n f).text (m e).end (n f).end r.end r.text; left = r.left }

  pub new_alike : (x y : Missing) (s t : Map Datum) → x ≡ y → AlikeMaps U s t → AlikeIn U (own_environment x s) (own_environment y t)
  new_alike x y s t is a = record { local = a; assigned = alike_empty U; counters = alike_empty U; globals = alike_empty U; registers = refl; missing = is }

  pub tied_apart : {A : Type 0} {R : A → A → Type 0} {m n : Run A} (s t : Map Datum) → AlikeMaps U s t → Tied U R m n → Tied U Same (apart s m) (apart t n)
  unfolding apart
  tied_apart {R = R} {m = m} {n = n} s t a mn e f h =
      let r = mn (own_environment e.missing s) (own_environment f.missing t) (new_alike e.missing f.missing s t h.missing a) in
      record {
        text = r.text;
        end = ended_alike R (m (own_environment e.missing s)).environment.registers.interrupt (n (own_environment f.missing t)).environment.registers.interrupt (m (own_environment e.missing s)).end (n (own_environment f.missing t)).end r.end (ap (λ g. g.interrupt) r.left.registers);
        left = h;
      }

  pub tied_for_all : (u : Use) (one other : ℕ → Datum → Run Nothing) → ((k : ℕ) (d e : Datum) → Alike u (Some d) (Some e) → Tied U Same (one k d) (other k e))
      → (k : ℕ) (ds es : List Datum) → AlikeLists u ds es → Tied U Same (for_all one k ds) (for_all other k es)
  unfolding for_all
  tied_for_all u one other i k [] [] a = tied_done Same tt tt refl
  tied_for_all u one other i k [] (e ∷ es) a = absurd a
  tied_for_all u one other i k (d ∷ ds) [] a = absurd a
  tied_for_all u one other i k (d ∷ ds) (e ∷ es) a = tied_then (i k d e a.0) (λ x. tied_for_all u one other i (suc k) ds es a.1)

  pub tied_until_break : (u : Use) (one other : ℕ → Datum → Run (Option Interrupt)) → ((k : ℕ) (d e : Datum) → Alike u (Some d) (Some e) → Tied U Same (one k d) (other k e))
      → (k : ℕ) (ds es : List Datum) → AlikeLists u ds es → Tied U Same (until_break one k ds) (until_break other k es)
  unfolding until_break
  tied_until_break u one other i k [] [] a = tied_done Same tt tt refl
  tied_until_break u one other i k [] (e ∷ es) a = absurd a
  tied_until_break u one other i k (d ∷ ds) [] a = absurd a
  tied_until_break u one other i k (d ∷ ds) (e ∷ es) a = tied_then (i k d e a.0) (λ left. tied_cond (is_break left) (tied_done Same tt tt refl) (tied_until_break u one other i (suc k) ds es a.1))
