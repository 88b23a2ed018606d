-- A page that a run wrote into a buffer.
use Rattle.std.proofs.lemmas.Bool.{true≢false}
use Rattle.std.proofs.Common.{◌≡◌, [], false, Result, Ok, Err, ◌⊎◌, inl, inr, sym, ap, ◌∙◌}
use Rattle.std.specs.Prelude.{IfErr, IfOk}
use Rattle.liquid_model.specs.Answer.{IsValueOrMemory}
use Rattle.liquid_model.specs.ErrorKinds.{is_memory}
use Rattle.liquid_model.specs.Texts.{Text}
use Rattle.liquid_model.specs.declared.error.Error.{Error}
use Rattle.liquid_model.specs.declared.error.ErrorKind.TheVariants.{Memory, Write}
use Rattle.liquid_core.specs.Environment.{Environment}
use Rattle.liquid_meaning.specs.Runs.{Nothing, Run}
use Rattle.liquid_engine.specs.Failures.{OneFailed, AtMostOneFailed}
use Rattle.liquid_engine.specs.Pages.{ended_page, fault_of, page_view, shown}
use Rattle.liquid_engine.specs.Performs.{Performs}
use Rattle.liquid_engine.specs.declared.rendered_page.Page.{Page}
use Rattle.liquid_engine.specs.inside.Engine.{in_buffer}
use Rattle.liquid_engine.proofs.Written.{never_failed}

module _ (text : Text) (m : Run Nothing) (e g : Environment) where
  whole : (answer : Result (Unit {0}) Error) → Performs answer m (in_buffer [] e) (in_buffer text g) → IfErr answer (λ x. is_memory x.kind ≡ false) → ended_page text answer ≡ shown (m e)
  whole answer (inl x) ran =
      let is : text ≡ (m e).text = x.adds.added in
      λ i. record { text = is i; fault = fault_of (x.end i) }
  whole (Ok value) (inr x) ran = absurd x.cause
  whole (Err x) (inr y) ran = on y.cause
    where
      on : (((x.kind ≡ Memory) × AtMostOneFailed 0 0) ⊎ ((x.kind ≡ Write) × OneFailed 0 0)) → ended_page text (Err x) ≡ shown (m e)
      on (inl both) = absurd (true≢false (sym (ap is_memory both.0) ∙ ran))
      on (inr both) = absurd (never_failed both.1)

  -- the page of what a run wrote is the run's, unless memory ran out
  pub page_met : (result : Result Page Error) (answer : Result (Unit {0}) Error) → Performs answer m (in_buffer [] e) (in_buffer text g)
      → IfOk result (λ page. page_view page ≡ ended_page text answer) → IfOk result (λ page. IfErr answer (λ x. is_memory x.kind ≡ false)) → IfErr result (λ x. x.kind ≡ Memory)
      → IsValueOrMemory page_view result (shown (m e))
  page_met (Ok page) answer performs is ran memory = is ∙ whole answer performs ran
  page_met (Err x) answer performs is ran memory = memory
