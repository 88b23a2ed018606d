-- Runs of counters.
use Rattle.std.proofs.Common.{rules, ◌≡◌, Bool, true, false, cond, Some, None, Result, Ok, Err, inl, inr, refl, ap, subst}
use Rattle.std.specs.Prelude.{ℤ, MatchBool, ⊤, if◌then◌else◌}
use Rattle.std.specs.Option.{ok_or}
use Rattle.liquid_model.specs.Answer.{Faulted}
use Rattle.liquid_model.specs.Data.{number}
use Rattle.liquid_model.specs.Texts.{Text}
use Rattle.liquid_model.specs.View.{view}
use Rattle.liquid_model.specs.declared.value.Value.{Integer, the_lemmas}
use Rattle.liquid_model.specs.ErrorKinds.{is_memory, is_refusal}
use Rattle.liquid_model.specs.Whole.{fits}
use Rattle.liquid_model.specs.declared.error.Error.{Error}
use Rattle.liquid_model.specs.declared.error.ErrorKind.{ErrorKind}
use Rattle.liquid_model.specs.declared.error.ErrorKind.TheVariants.{NumberRange}
use Rattle.liquid_engine.specs.inside.Counters.{in_i64, shown_and_stored}
use Rattle.liquid_engine.specs.Performs.{Configuration, Performs, unit}
use Rattle.liquid_engine.proofs.Joined.{bind_met, bind_faulted, done_met, memory_of, no_value_met, read_met}
use Rattle.liquid_engine.proofs.Sinks.{AddsPart-none}
use Rattle.liquid_meaning.specs.Effects.{counter_number}
use Rattle.liquid_meaning.specs.Meaning.{within_i64}
use Rattle.liquid_meaning.specs.Runs.{Nothing, Run, done, read_environment, evaluate, fault, ◌>>=◌}

abbrev nothing : Run Nothing
nothing = done tt

-- a number that is answered is the one that was computed
pub in_i64_is : (z n : ℤ) → in_i64 z ≡ Ok n → n ≡ z
in_i64_is z n h = on (fits z) h
  where
    on : (b : Bool) → ok_or (if b then Some z else None) NumberRange ≡ Ok n → n ≡ z
    on true e = cc
    on false e = absurd cc

-- it is within 64 bits, and the run goes on
fit_met : (z n : ℤ) (r : Result (Unit {0}) Error) (k : Run Nothing) (p q : Configuration) → in_i64 z ≡ Ok n → Performs r k p q → Performs r (within_i64 z >>= (λ a. k)) p q
fit_met z n r k p q is h = on (fits z) is
  where
    on : (b : Bool) → ok_or (if b then Some z else None) NumberRange ≡ Ok n → Performs r (cond b nothing (fault NumberRange) >>= (λ a. k)) p q
    on true e = bind_met unit unit tt r nothing (λ a. k) p p q (done_met tt p) h
    on false e = absurd cc

no_fault : (z : ℤ) (e : Error) (p : Configuration) → Faulted {Y = ℤ} e.kind (Ok z) → Performs (Err e) nothing p p
no_fault z e p h = on (is_memory e.kind) refl h
  where
    on : (m : Bool) → is_memory e.kind ≡ m → MatchBool m ⊤ ((◌≡◌ {A = Result ℤ ErrorKind} (Ok z) (Err e.kind)) × (is_refusal e.kind ≡ false)) → Performs (Err e) nothing p p
    on true is k = inr (record { cause = inl (memory_of e.kind is, inl refl); adds = AddsPart-none p.sink _ })
    on false is (k, w) = absurd cc

beyond : (e : Error) (p : Configuration) → Faulted {Y = ℤ} e.kind (Err NumberRange) → Performs (Err e) (fault NumberRange) p p
unfolding fault evaluate
beyond e p h = no_value_met {V = Unit {0}} unit e (λ g. Err NumberRange) p (on (is_memory e.kind) h)
  where
    same : ◌≡◌ {A = Result ℤ ErrorKind} (Err NumberRange) (Err e.kind) → NumberRange ≡ e.kind
    same k = cc

    err : ErrorKind → Result Nothing ErrorKind
    err k = Err k

    on : (m : Bool) → MatchBool m ⊤ ((◌≡◌ {A = Result ℤ ErrorKind} (Err NumberRange) (Err e.kind)) × (is_refusal e.kind ≡ false)) → MatchBool m ⊤ ((◌≡◌ {A = Result Nothing ErrorKind} (Err NumberRange) (Err e.kind)) × (is_refusal e.kind ≡ false))
    on true k = tt
    on false (k, w) = (ap err (same k), w)

-- it isn't, and the run ends
unfit_met : (z : ℤ) (e : Error) (k : Run Nothing) (p : Configuration) → Faulted e.kind (in_i64 z) → Performs (Err e) (within_i64 z >>= (λ a. k)) p p
unfit_met z e k p h = bind_faulted unit unit e (within_i64 z) (λ a. k) p p (on (fits z) h)
  where
    on : (b : Bool) → Faulted e.kind (ok_or (if b then Some z else None) NumberRange) → Performs (Err e) (cond b nothing (fault NumberRange)) p p
    on true f = no_fault z e p f
    on false f = beyond e p f

-- the counter's number decides what is shown and what is stored
abbrev pub counting : Text → (ℤ → ℤ) → (ℤ → ℤ) → Run Nothing
counting name shown stored = read_environment (counter_number name) >>= (λ n. within_i64 (stored n) >>= (λ a. shown_and_stored name (shown n) (stored n)))

module _ (name : Text) (shown stored : ℤ → ℤ) where
  abbrev from_number : ℤ → Run Nothing
  from_number n = within_i64 (stored n) >>= (λ a. shown_and_stored name (shown n) (stored n))

  pub counts : (r : Result (Unit {0}) Error) (n z : ℤ) (p q : Configuration) → n ≡ counter_number name p.environment → in_i64 (stored n) ≡ Ok z → Performs r (shown_and_stored name (shown n) z) p q → Performs r (counting name shown stored) p q
  counts r n z p q is fit h =
      let as_stored : Performs r (shown_and_stored name (shown n) (stored n)) p q = subst (λ m. Performs r (shown_and_stored name (shown n) m) p q) (in_i64_is (stored n) z fit) h in
      read_met unit r (counter_number name) from_number p q (subst (λ m. Performs r (from_number m) p q) is (fit_met (stored n) z r (shown_and_stored name (shown n) (stored n)) p q fit as_stored))

  pub counts_too_far : (e : Error) (n : ℤ) (p : Configuration) → n ≡ counter_number name p.environment → Faulted e.kind (in_i64 (stored n)) → Performs (Err e) (counting name shown stored) p p
  counts_too_far e n p is h =
      read_met unit (Err e) (counter_number name) from_number p p (subst (λ m. Performs (Err e) (from_number m) p p) is (unfit_met (stored n) e (shown_and_stored name (shown n) (stored n)) p h))

-- a number, seen
pub view-Integer : (z : ℤ) → view (Integer z) ≡ number z
view-Integer z = search (rules, the_lemmas)
