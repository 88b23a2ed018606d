-- What a run with no buffer open says of the caller's writer, and one into a buffer of its text.
use Rattle.std.proofs.lemmas.Bool.{true≢false}
use Rattle.std.proofs.Common.{arith, ◌≡◌, ℕ, [], Bool, true, false, Option, Some, None, is_some, Result, Ok, Err, ◌⊎◌, inl, inr, refl, sym, ap, subst, ◌∙◌, String, Global, string_bytes}
use Rattle.liquid_model.specs.Texts.{Text}
use Rattle.liquid_model.specs.ErrorKinds.{is_memory, is_refusal}
use Rattle.liquid_core.specs.Environment.{Names, Environment}
use Rattle.liquid_model.specs.declared.error.Error.{Error}
use Rattle.liquid_model.specs.declared.error.ErrorKind.{ErrorKind}
use Rattle.liquid_model.specs.declared.error.ErrorKind.TheVariants.{Memory, Write}
use Rattle.liquid_engine.specs.Failures.{OneFailed, AtMostOneFailed}
use Rattle.liquid_model.specs.Answer.{Answers, Faulted}
use Rattle.liquid_engine.proofs.Joined.{memory_of}
use Rattle.liquid_engine.specs.Sinks.{Sink, Adds, AddsPart}
use Rattle.liquid_meaning.specs.Runs.{Nothing, Outcome, Run, ended_with}
use Rattle.liquid_meaning.specs.Isolation.{IsAsCut, changes}
use Rattle.liquid_engine.specs.Performs.{Configuration, Exact, IsCut, MeetsAt, Performs, is_refused, unit, writer_sink}
use Rattle.liquid_engine.specs.Rendered.{PerformsForCut}
use Rattle.liquid_engine.specs.inside.Engine.{in_buffer}

is_none-same : (a b : Option Text) → is_some b ≡ is_some a → a ≡ None → b ≡ None
is_none-same a None e none = refl
is_none-same a (Some x) e none = absurd (true≢false (e ∙ ap is_some none))

place : {V A : Type 0} (view : V → A) (r : Result V Error) (o : Outcome A) (s t : Sink) (g : Environment) → MeetsAt view r o s t g → is_some t.buffer ≡ is_some s.buffer
place view r o s t g (inl p) = p.adds.same_place
place view r o s t g (inr p) = p.adds.adds.same_place

-- a run with no buffer open, seen at the caller's writer, which ends as the output left it
pub at_caller : {V A W : Type 0} (contents : W → Option Text) (failure_count : W → ℕ) (view : V → A) (r : Result V Error) (o : Outcome A) (before after end : W) (buffer : Option Text) (g : Environment)
    → end ≡ after
    → MeetsAt view r o (writer_sink (contents before) (failure_count before)) (record { buffer = buffer; contents = contents after; failures = failure_count after }) g
    → MeetsAt view r o (writer_sink (contents before) (failure_count before)) (writer_sink (contents end) (failure_count end)) g
at_caller contents failure_count view r o before after end buffer g same h =
    let start = writer_sink (contents before) (failure_count before) in
    let last = subst (λ b. MeetsAt view r o start (record { buffer = b; contents = contents after; failures = failure_count after }) g)
    (is_none-same None _ (place view r o _ _ g h) refl) h in
    subst (λ w. MeetsAt view r o start (writer_sink (contents w) (failure_count w)) g) (sym same) last

-- the law of isolation, at a run's answer
pub for_cut : (N : Names) (r : Result (Unit {0}) Error) (m : Run Nothing) (p q : Configuration) → IsAsCut m N p.environment → Performs r m p q → PerformsForCut N r m p q
for_cut N r m p q law (inl x) = inl (record {
  text = subst (Adds p.sink q.sink) law.text x.adds;
  end = x.end ∙ law.end;
  changes = ap (changes p.environment) x.same ∙ law.changes;
})
for_cut N r m p q law (inr x) = inr (record { cause = x.cause; adds = subst (AddsPart p.sink q.sink) law.text x.adds })

-- ---- whole renderings

is_refused_of : {V : Type 0} (r : Result V Error) (old new : ℕ) → IsCut r old new → is_refused r ≡ true
is_refused_of (Ok value) old new cause = absurd cause
is_refused_of (Err e) old new (inl both) = ap is_refusal both.0
is_refused_of (Err e) old new (inr both) = ap is_refusal both.0

-- where the answer is neither `Memory` nor `Write`
pub exact : {V A : Type 0} (view : V → A) (r : Result V Error) (o : Outcome A) (s t : Sink) (g : Environment) → MeetsAt view r o s t g → is_refused r ≡ false → Exact view r o s t g
exact view r o s t g (inl p) within = p
exact view r o s t g (inr p) within = absurd (true≢false (sym (is_refused_of r s.failures t.failures p.cause) ∙ within))

-- ---- a text in place of writing

pub never_failed : OneFailed 0 0 → ⊥
never_failed is = absurd (omega (arith, is))

memory_is : (kind : ErrorKind) → kind ≡ Memory → is_memory kind ≡ true
memory_is kind is = ap is_memory is

no_memory : (kind : ErrorKind) → is_refusal kind ≡ false → is_memory kind ≡ false
no_memory kind within = on (is_memory kind) refl
  where
    on : (b : Bool) → is_memory kind ≡ b → is_memory kind ≡ false
    on false is = is
    on true is = absurd (true≢false (sym (ap is_refusal (memory_of kind is)) ∙ within))

-- the text of a run into a buffer
pub text_answered : (answer : Result (Unit {0}) Error) (value : Unit {0}) (text : String Global) (m : Run Nothing) (e g : Environment) → answer ≡ Ok value
    → Performs answer m (in_buffer [] e) (in_buffer (string_bytes text) g) → Answers (λ t. string_bytes t) (Ok text) (ended_with (m e).text (m e).end)
text_answered answer value text m e g is h = on (subst (λ r. Performs r m (in_buffer [] e) (in_buffer (string_bytes text) g)) is h)
  where
    on : Performs (Ok value) m (in_buffer [] e) (in_buffer (string_bytes text) g) → ended_with (m e).text (m e).end ≡ Ok (string_bytes text)
    on (inl p) = let same : string_bytes text ≡ (m e).text = p.adds.added in sym (ap Ok same ∙ ap (ended_with (m e).text) p.end)
    on (inr p) = absurd p.cause

-- the fault that it ended by, or `Memory`
pub fault_answered : (answer : Result (Unit {0}) Error) (x : Error) (text : Text) (m : Run Nothing) (e g : Environment) → answer ≡ Err x
    → Performs answer m (in_buffer [] e) (in_buffer text g) → Answers {X = String Global} (λ t. string_bytes t) (Err x) (ended_with (m e).text (m e).end)
fault_answered answer x text m e g is h = on (subst (λ r. Performs r m (in_buffer [] e) (in_buffer text g)) is h)
  where
    refused : (((x.kind ≡ Memory) × AtMostOneFailed 0 0) ⊎ ((x.kind ≡ Write) × OneFailed 0 0)) → Faulted x.kind (ended_with (m e).text (m e).end)
    refused (inl both) = rw (memory_is x.kind both.0) tt
    refused (inr both) = absurd (never_failed both.1)

    on : Performs (Err x) m (in_buffer [] e) (in_buffer text g) → Faulted x.kind (ended_with (m e).text (m e).end)
    on (inl p) = rw (no_memory x.kind p.within) (ap (ended_with (m e).text) (sym p.end), p.within)
    on (inr p) = refused p.cause

-- what the run left, unless memory ran out
pub environment_left : {V : Type 0} (r : Result V Error) (answer : Result (Unit {0}) Error) (text : Text) (m : Run Nothing) (e g : Environment) → is_refused answer ≡ is_refused r
    → Performs answer m (in_buffer [] e) (in_buffer text g) → is_refused r ≡ false → g ≡ (m e).environment
environment_left r answer text m e g same h within = (exact unit answer (m e) _ _ g h (same ∙ within)).same
