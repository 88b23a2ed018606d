-- What a step of a run has done, by its answer.
--     Meets view r m before after      the step is the run m, unless the answer is `Memory` or
--                                      `Write`: then a beginning of m's text was added
--     Performs r m before after      the same of a step that gives no value
--     WritesText r t old new      the step writes t and does nothing else
use Rattle.std.specs.Prelude.{◌≡◌, ℕ, List, Bool, false, Result, Ok, Err, ◌⊎◌, Option, None}
use Rattle.liquid_model.specs.Texts.{Text}
use Rattle.liquid_model.specs.declared.error.Error.{Error}
use Rattle.liquid_model.specs.declared.error.ErrorKind.{ErrorKind}
use Rattle.liquid_model.specs.declared.error.ErrorKind.TheVariants.{Memory, Write}
use Rattle.liquid_model.specs.ErrorKinds.{is_refusal}
use Rattle.liquid_core.specs.Environment.{Environment}
use Rattle.liquid_core.specs.States.{environment_of}
use Rattle.liquid_core.specs.declared.state.State.{State}
use Rattle.liquid_engine.specs.Failures.{OneFailed, AtMostOneFailed}
use Rattle.liquid_engine.specs.Sinks.{Sink, sink_of, Adds, AddsPart}
use Rattle.liquid_engine.specs.declared.output.Output.{Output}
use Rattle.liquid_meaning.specs.Runs.{Nothing, Outcome, Run}

-- where a run stands: what it writes to, and its environment
pub record Configuration : Type 0 where
  pub sink : Sink
  pub environment : Environment

abbrev pub configuration_of : {W : Type 0} → (W → Option (List ℕ)) → (W → ℕ) → Output W → State →
    Configuration
configuration_of contents failure_count out state = record {
  sink = sink_of contents failure_count out;
  environment = environment_of state;
}

abbrev pub answer_of : {V A : Type 0} → (V → A) → Result V Error → Result A ErrorKind
answer_of view (Ok value) = Ok (view value)
answer_of view (Err e) = Err e.kind

abbrev pub is_refused : {V : Type 0} → Result V Error → Bool
is_refused (Ok value) = false
is_refused (Err e) = is_refusal e.kind

-- the answer is `Memory` and at most one write failed, or it is `Write` and just one did
abbrev pub IsCut : {V : Type 0} → Result V Error → ℕ → ℕ → Type 0
IsCut (Ok value) old new = ⊥
IsCut (Err e) old new = ((e.kind ≡ Memory) × AtMostOneFailed old new) ⊎
    ((e.kind ≡ Write) × OneFailed old new)

-- the answer is the meaning's end, all of its text was added, no write failed, and the environment
-- is the meaning's
pub record Exact {V A : Type 0} (view : V → A) (r : Result V Error) (meant : Outcome A)
    (old new : Sink) (environment : Environment) : Type 0 where
  pub end : answer_of view r ≡ meant.end
  pub within : is_refused r ≡ false
  pub adds : Adds old new meant.text
  pub none_failed : new.failures ≡ old.failures
  pub same : environment ≡ meant.environment

-- want of memory or a failed write ended the step, and a beginning of the meaning's text was added
pub record Cut {V : Type 0} (r : Result V Error) (text : Text) (old new : Sink) : Type 0 where
  pub cause : IsCut r old.failures new.failures
  pub adds : AddsPart old new text

abbrev pub MeetsAt : {V A : Type 0} → (V → A) → Result V Error → Outcome A → Sink → Sink →
    Environment → Type 0
MeetsAt view r meant old new environment = Exact view r meant old new environment ⊎
    Cut r meant.text old new

abbrev pub Meets : {V A : Type 0} → (V → A) → Result V Error → Run A → Configuration →
    Configuration → Type 0
Meets view r m before after =
    MeetsAt view r (m before.environment) before.sink after.sink after.environment

abbrev pub unit : Unit {0} → Nothing
unit u = tt

abbrev pub Performs : Result (Unit {0}) Error → Run Nothing → Configuration → Configuration → Type 0
Performs r m before after = Meets unit r m before after

-- the text was written, unless the answer is `Memory` or `Write`, and nothing else happened
abbrev pub WritesText : Result (Unit {0}) Error → Text → Sink → Sink → Type 0
WritesText r t old new = (e : Environment) → MeetsAt unit r (record {
  text = t;
  environment = e;
  end = Ok tt;
}) old new e

-- a caller's writer, with no buffer open
abbrev pub writer_sink : Option (List ℕ) → ℕ → Sink
writer_sink contents failures = record { buffer = None; contents = contents; failures = failures }
