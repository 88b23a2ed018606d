-- What is written where a language escapes.
use Rattle.std.specs.Prelude.{◌≡◌, [], ◌∷◌, Result, Ok, Err}
use mathlib.Core.Path.{refl, ap, ◌∙◌}
use Rattle.liquid_model.specs.Data.{Datum, text, text_of}
use Rattle.liquid_model.specs.FilterAnswers.{FilterAnswer}
use Rattle.liquid_model.specs.Texts.{Text}
use Rattle.liquid_model.specs.declared.error.ErrorKind.{ErrorKind}
use Rattle.liquid_core.specs.Environment.{Environment}
use Rattle.liquid_core.specs.declared.missing_value.Missing.{Missing}
use Rattle.liquid_core.specs.declared.missing_value.Missing.TheVariants.{IsFault, IsNil}
use Rattle.liquid_filters.specs.Escapes.{escaped_bytes}
use Rattle.liquid_evaluation.specs.Calls.{applied, taken_arguments}
use Rattle.liquid_evaluation.specs.Escaped.{escape_call, escaped_node}
use Rattle.liquid_evaluation.specs.Evaluation.{answers_in, answers_with, calls_by, chain_value, through}
use Rattle.liquid_evaluation.specs.Tree.{no_nodes, node, output}
use Rattle.liquid_meaning.specs.Escaping.{EscapedOutputs, EscapedTexts, hosted_setting}
use Rattle.liquid_meaning.specs.Meaning.{deeper_meaning, meaning, nodes_meaning}
use Rattle.liquid_meaning.specs.Runs.{Nothing, Outcome, Run, ◌>>=◌, after_text, buffered, ended_with, evaluate, go_on, write}
use Rattle.liquid_meaning.proofs.Rules.{filtered_rule, output_rule}
use Rattle.liquid_meaning.proofs.Steps.{alone}

-- what `escape` makes of a text, however missing values are taken
escape_text : (named : Text → FilterAnswer) (t : Text) (m : Missing) (e : Environment) → applied (calls_by (answers_in m (answers_with named)) (escape_call ∷ [])) (text t) e ≡ Ok (text (escaped_bytes t))
unfolding applied taken_arguments
escape_text named t IsFault e = refl
escape_text named t IsNil e = refl

-- after a text is buffered
text_through : (named : Text → FilterAnswer) (t : Text) (e : Environment) → (evaluate (through (answers_with named) (escape_call ∷ []) (text t)) >>= (λ d. write (text_of d))) e ≡ write (escaped_bytes t) e
unfolding ◌>>=◌ go_on evaluate write
text_through named t e = ap (λ (r : Result Datum ErrorKind). go_on (λ d. write (text_of d)) [] e r) (escape_text named t e.missing e)

ended : (named : Text → FilterAnswer) (t : Text) (e : Environment) (end : Result Nothing ErrorKind)
    → go_on (λ t. evaluate (through (answers_with named) (escape_call ∷ []) (text t)) >>= (λ d. write (text_of d))) [] e (ended_with t end) ≡ go_on (λ t. write (escaped_bytes t)) [] e (ended_with t end)
unfolding go_on
ended named t e (Ok a) = ap (after_text []) (text_through named t e)
ended named t e (Err kind) = refl

pub escaped_texts : EscapedTexts
unfolding meaning ◌>>=◌ buffered
escaped_texts named partials depth n e =
    let s = hosted_setting named partials in
    let deeper = deeper_meaning s depth in
    let o = nodes_meaning s deeper (node n no_nodes) e in
    alone s deeper (escaped_node n) e
    ∙ ap (λ (m : Run Nothing). m e) (filtered_rule s deeper (escape_call ∷ []) (node n no_nodes))
    ∙ ended named o.text o.environment o.end

value_ended : (e : Environment) (r : Result Datum ErrorKind) → go_on (λ t. write (escaped_bytes t)) [] (go_on (λ d. write (text_of d)) [] e r).environment (ended_with (go_on (λ d. write (text_of d)) [] e r).text (go_on (λ d. write (text_of d)) [] e r).end) ≡ go_on (λ d. write (escaped_bytes (text_of d))) [] e r
unfolding go_on write
value_ended e (Ok d) = refl
value_ended e (Err kind) = refl

pub escaped_outputs : EscapedOutputs
unfolding meaning ◌>>=◌ buffered evaluate
escaped_outputs named partials depth chain e =
    let s = hosted_setting named partials in
    let deeper = deeper_meaning s depth in
    escaped_texts named partials depth (output chain) e
    ∙ ap (λ (o : Outcome Nothing). go_on (λ t. write (escaped_bytes t)) [] o.environment (ended_with o.text o.end)) (alone s deeper (output chain) e ∙ ap (λ (m : Run Nothing). m e) (output_rule s deeper chain))
    ∙ value_ended e (chain_value (answers_with named) chain e)
