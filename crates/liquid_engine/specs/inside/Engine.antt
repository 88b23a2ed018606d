-- What the functions of a run do.
use Rattle.std.specs.Prelude.{ℕ, List, Option, Some, None}
use Rattle.liquid_model.specs.Texts.{Text}
use Rattle.liquid_core.specs.Environment.{Environment}
use Rattle.liquid_model.specs.FilterAnswers.{FilterAnswer}
use Rattle.liquid_evaluation.specs.Evaluation.{answers_with}
use Rattle.liquid_evaluation.specs.Tree as tree
use Rattle.liquid_syntax.specs.Templates.{partials_of}
use Rattle.liquid_engine.specs.Performs.{Configuration}
use Rattle.liquid_engine.specs.declared.context.RunContext.{RunContext}
use Rattle.liquid_meaning.specs.Runs.{Nothing, Run}
use Rattle.liquid_meaning.specs.Meaning.{Setting, node_meaning, nodes_meaning, deeper_meaning}

-- the filters that exist, those of the host by name, and the partials
abbrev pub setting_of : {H : Type 0} → (H → Text → FilterAnswer) → RunContext H → Setting
setting_of named context = record {
  answers = answers_with (named context.host.now);
  partials = partials_of context.partials.now;
}

-- what a node means, and a list of nodes, where `depth` more partials may be nested
abbrev pub node_meant : Setting → ℕ → tree.Node → Run Nothing
node_meant setting depth n = node_meaning setting (deeper_meaning setting depth) n

abbrev pub nodes_meant : Setting → ℕ → tree.Nodes → Run Nothing
nodes_meant setting depth nodes = nodes_meaning setting (deeper_meaning setting depth) nodes

-- the same with what a run is given
abbrev pub node_in : {H : Type 0} → (H → Text → FilterAnswer) → RunContext H → tree.Node →
    Run Nothing
node_in named context n = node_meant (setting_of named context) context.depth n

abbrev pub nodes_in : {H : Type 0} → (H → Text → FilterAnswer) → RunContext H → tree.Nodes →
    Run Nothing
nodes_in named context nodes = nodes_meant (setting_of named context) context.depth nodes

-- a run into a buffer that holds this text, which no writer sees
abbrev pub in_buffer : Text → Environment → Configuration
in_buffer text environment = record {
  sink = record {
    buffer = Some text;
    contents = None;
    failures = 0;
  };
  environment = environment;
}

-- a run into a buffer that holds this text, with a writer beside it
module _ {W : Type 0} (contents : W → Option (List ℕ)) (failure_count : W → ℕ) where
  abbrev pub with_writer : W → Text → Environment → Configuration
  with_writer writer text environment = record {
    sink = record {
      buffer = Some text;
      contents = contents writer;
      failures = failure_count writer;
    };
    environment = environment;
  }
