-- What a whole rendering has done.
use Rattle.std.specs.Prelude.{◌≡◌, ℕ, nat_le, Bool, List, Result, ◌⊎◌, Option}
use Rattle.liquid_model.specs.ErrorKinds.{number_of}
use Rattle.liquid_model.specs.declared.error.Error.{Error}
use Rattle.liquid_model.specs.declared.error.ErrorKind.{ErrorKind}
use Rattle.liquid_core.specs.Environment.{Names, Environment, cut}
use Rattle.liquid_model.specs.FilterAnswers.{FilterAnswer}
use Rattle.liquid_evaluation.specs.Names.{run_names, mentioned}
use Rattle.liquid_evaluation.specs.Tree.{Nodes}
use Rattle.liquid_engine.specs.Sinks.{Adds}
use Rattle.liquid_meaning.specs.Runs.{Nothing, Outcome, Run}
use Rattle.liquid_meaning.specs.Meaning.{meaning}
use Rattle.liquid_meaning.specs.Isolation.{changes}
use Rattle.liquid_engine.specs.Performs.{Configuration, Cut, answer_of, unit, writer_sink}
use Rattle.liquid_engine.specs.RuntimeView.{environment_in, partials_in, setting_in, depth_in}
use Rattle.liquid_engine.specs.declared.runtime.Runtime.{Runtime}

module _ {D : Type 0} {P : D → Type 0} where
  -- the names that the nodes or a partial mention
  abbrev pub names_in : Runtime D P → Nodes → Names
  names_in runtime nodes = mentioned (run_names (partials_in runtime) nodes)

  -- with what the boxed filters take and answer
  module _ (counts : (x : D) × P x → ℕ → Bool) (answer : (x : D) × P x → FilterAnswer) where
    -- what the nodes mean, with the runtime's filters, partials and depth
    abbrev pub run_in : Runtime D P → Nodes → Run Nothing
    run_in runtime nodes = meaning (setting_in counts answer runtime) (depth_in runtime) nodes

    -- their run, from what the runtime holds
    abbrev pub outcome_in : Runtime D P → Nodes → Outcome Nothing
    outcome_in runtime nodes = run_in runtime nodes (environment_in runtime)

-- a kind by which a rendering ends, of the numbers 1 to 18: one of a run, `Memory` or `Write`, and
-- none of a source
abbrev pub is_rendering_kind : ErrorKind → Bool
is_rendering_kind kind = nat_le (number_of kind) 18

-- a run with no buffer open
abbrev pub at_writer : {W : Type 0} → (W → Option (List ℕ)) → (W → ℕ) → W → Environment →
    Configuration
at_writer contents failure_count writer environment = record {
  sink = writer_sink (contents writer) (failure_count writer);
  environment = environment;
}

-- text, end and changes are those of m for the environment cut to N
pub record ExactForCut (N : Names) (r : Result (Unit {0}) Error) (m : Run Nothing)
    (before after : Configuration) : Type 0 where
  pub text : Adds before.sink after.sink (m (cut N before.environment)).text
  pub end : answer_of unit r ≡ (m (cut N before.environment)).end
  pub changes : changes before.environment after.environment ≡ changes (cut N before.environment)
      (m (cut N before.environment)).environment

-- unless the answer is `Memory` or `Write`: then a beginning of that text was added
abbrev pub PerformsForCut : Names → Result (Unit {0}) Error → Run Nothing → Configuration →
    Configuration → Type 0
PerformsForCut N r m before after = ExactForCut N r m before after ⊎
    Cut r (m (cut N before.environment)).text before.sink after.sink
