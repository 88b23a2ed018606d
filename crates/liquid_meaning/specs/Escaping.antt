-- What is written where a language escapes.
use Rattle.std.specs.Prelude.{◌≡◌, ℕ, List}
use Rattle.liquid_model.specs.Data.{text_of}
use Rattle.liquid_model.specs.FilterAnswers.{FilterAnswer}
use Rattle.liquid_model.specs.Texts.{Text}
use Rattle.liquid_core.specs.Environment.{Environment}
use Rattle.liquid_filters.specs.Escapes.{escaped_bytes}
use Rattle.liquid_evaluation.specs.Escaped.{escaped_node}
use Rattle.liquid_evaluation.specs.Evaluation.{answers_with, chain_value}
use Rattle.liquid_evaluation.specs.Tree.{Chain, Node, Nodes, no_nodes, node, output}
use Rattle.liquid_meaning.specs.Meaning.{Setting, meaning}
use Rattle.liquid_meaning.specs.Runs.{Nothing, Run, ◌>>=◌, buffered, evaluate, write}

-- a run with its text escaped for HTML; where it ends by a kind nothing is written
abbrev pub with_text_escaped : Run Nothing → Run Nothing
with_text_escaped m = do
  t ← buffered m
  write (escaped_bytes t)

-- the filters that exist, beside those of a host by name, and partials
abbrev pub hosted_setting : (Text → FilterAnswer) → List (Text × Nodes) → Setting
hosted_setting named partials = record { answers = answers_with named; partials = partials }

-- an escaped node writes its text escaped
abbrev pub EscapedTexts : Type 0
EscapedTexts = (named : Text → FilterAnswer) (partials : List (Text × Nodes)) (depth : ℕ) (n : Node)
    (e : Environment) →
    meaning (hosted_setting named partials) depth (node (escaped_node n) no_nodes) e ≡
    with_text_escaped (meaning (hosted_setting named partials) depth (node n no_nodes)) e

-- what an output of a chain writes is the text of the chain's value, escaped
abbrev pub escaped_value : (Text → FilterAnswer) → Chain → Run Nothing
escaped_value named chain = do
  d ← evaluate (chain_value (answers_with named) chain)
  write (escaped_bytes (text_of d))

abbrev pub EscapedOutputs : Type 0
EscapedOutputs = (named : Text → FilterAnswer) (partials : List (Text × Nodes)) (depth : ℕ)
    (chain : Chain) (e : Environment) →
    meaning (hosted_setting named partials) depth (node (escaped_node (output chain)) no_nodes) e ≡
    escaped_value named chain e
