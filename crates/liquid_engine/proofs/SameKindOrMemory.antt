-- A step that ended by a fault ended so too where the fault gets a location.
use Rattle.std.proofs.Common.{◌≡◌, ℕ, Bool, true, false, [], Result, Ok, Err, inl, inr, refl, sym, ap, subst, ◌∙◌, append-nil}
use Rattle.std.specs.Prelude.{MatchBool, ⊤}
use Rattle.liquid_model.specs.declared.error.Error.{Error}
use Rattle.liquid_model.specs.ErrorKinds.{IsKindOrMemory, is_memory, is_refusal}
use Rattle.liquid_core.specs.Environment.{Environment}
use Rattle.liquid_engine.specs.Failures.{AtMostOneFailed}
use Rattle.liquid_engine.specs.Performs.{IsCut, MeetsAt}
use Rattle.liquid_engine.specs.inside.SameKindOrMemory.{SameKindOrMemory}
use Rattle.liquid_engine.specs.Sinks.{Sink}
use Rattle.liquid_meaning.specs.Runs.{Outcome}
use Rattle.liquid_engine.proofs.Joined.{memory_of}

at_most : (V : Type 0) (e : Error) (old new : ℕ) → IsCut {V = V} (Err e) old new → AtMostOneFailed old new
at_most V e old new (inl (is, failed)) = failed
at_most V e old new (inr (is, failed)) = inr failed

cut_again : (V : Type 0) (e f : Error) (old new : ℕ) → e.kind ≡ f.kind → IsCut {V = V} (Err e) old new → IsCut {V = V} (Err f) old new
cut_again V e f old new same (inl (is, failed)) = inl (sym same ∙ is, failed)
cut_again V e f old new same (inr (is, failed)) = inr (sym same ∙ is, failed)

-- the same fault, or memory ran out for telling it
pub fault_again : {V A : Type 0} {view : V → A} {o : Outcome A} {s u : Sink} {g : Environment} (e f : Error) → IsKindOrMemory e.kind f.kind → MeetsAt view (Err e) o s u g → MeetsAt view (Err f) o s u g
fault_again {V = V} {view = view} {o = o} {s = s} {u = u} {g = g} e f kind met = on (is_memory f.kind) refl kind met
  where
    on : (b : Bool) → is_memory f.kind ≡ b → MatchBool b ⊤ (e.kind ≡ f.kind) → MeetsAt view (Err e) o s u g → MeetsAt view (Err f) o s u g
    on true is same (inl x) = inr (record {
      cause = inl (memory_of f.kind is, inl x.none_failed);
      adds = record { front = o.text; rest = []; whole = append-nil o.text; adds = x.adds };
    })
    on true is same (inr x) = inr (record { cause = inl (memory_of f.kind is, at_most V e s.failures u.failures x.cause); adds = x.adds })
    on false is same (inl x) = inl (record {
      end = ap (λ k. Err k) (sym same) ∙ x.end;
      within = ap is_refusal (sym same) ∙ x.within;
      adds = x.adds;
      none_failed = x.none_failed;
      same = x.same;
    })
    on false is same (inr x) = inr (record { cause = cut_again V e f s.failures u.failures same x.cause; adds = x.adds })

pub met_again : {V A : Type 0} {view : V → A} {o : Outcome A} {s u : Sink} {g : Environment} (r q : Result V Error) → SameKindOrMemory r q → MeetsAt view r o s u g → MeetsAt view q o s u g
met_again {view = view} {o = o} {s = s} {u = u} {g = g} (Ok value) (Ok other) same met = subst (λ v. MeetsAt view (Ok v) o s u g) (sym same) met
met_again (Ok value) (Err f) never met = absurd never
met_again (Err e) (Ok other) never met = absurd never
met_again (Err e) (Err f) kind met = fault_again e f kind met
