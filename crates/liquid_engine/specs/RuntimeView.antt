-- What a runtime, or the builder of one, holds.
--     layers_in, environment_in      its names and registers
--     setting_in, depth_in      the filters' answers and the partials; how many nested partials
--                               there may be
--     named_for      what the host's filters of a builder answer by name
use Rattle.std.specs.Prelude.{◌≡◌, ℕ, Bool, List, [], Option, Some, None}
use Rattle.std.specs.Borrow.{Bor}
use Rattle.liquid_model.specs.Texts.{Text}
use Rattle.liquid_model.specs.Data.{Datum}
use Rattle.liquid_model.specs.Maps.{Map}
use Rattle.liquid_core.specs.Environment.{Environment}
use Rattle.liquid_model.specs.FilterAnswers.{FilterAnswer}
use Rattle.liquid_core.specs.Hosts.{named_by}
use Rattle.liquid_core.specs.Held.{held}
use Rattle.liquid_core.specs.States.{Layers, layers_of, environment_of}
use Rattle.liquid_evaluation.specs.Tree.{Nodes}
use Rattle.liquid_evaluation.specs.Evaluation.{answers_with}
use Rattle.liquid_syntax.specs.Templates.{partials_of}
use Rattle.liquid_syntax.specs.declared.partials.Partials.{Partials}
use Rattle.liquid_meaning.specs.Meaning.{Setting}
use Rattle.liquid_engine.specs.declared.runtime.Runtime.{Runtime}
use Rattle.liquid_engine.specs.declared.runtime.RuntimeBuilder.{RuntimeBuilder}

-- the trees of partials, of which there may be none
abbrev pub trees_of : Option (Bor Partials) → List (Text × Nodes)
trees_of None = []
trees_of (Some partials) = partials_of partials.now

-- A runtime has a host's filters, which are boxed: D and P are what stands in such a box.
module _ {D : Type 0} {P : D → Type 0} where
  abbrev pub layers_in : Runtime D P → Layers
  layers_in runtime = layers_of runtime.state

  abbrev pub environment_in : Runtime D P → Environment
  environment_in runtime = environment_of runtime.state

  abbrev pub partials_in : Runtime D P → List (Text × Nodes)
  partials_in runtime = trees_of runtime.partials

  abbrev pub depth_in : Runtime D P → ℕ
  depth_in runtime = runtime.depth

  -- the host's filters, the partials and the depth are as they were
  pub record SettingKept (old new : Runtime D P) : Type 0 where
    pub host : new.host ≡ old.host
    pub partials : partials_in new ≡ partials_in old
    pub depth : depth_in new ≡ depth_in old

  -- ---- builders

  abbrev pub globals_for : RuntimeBuilder D P → Map Datum
  globals_for builder = held builder.globals

  abbrev pub partials_for : RuntimeBuilder D P → List (Text × Nodes)
  partials_for builder = trees_of builder.partials

  abbrev pub depth_for : RuntimeBuilder D P → ℕ
  depth_for builder = builder.depth

  -- ---- with what the boxed filters take and answer
  module _ (counts : (x : D) × P x → ℕ → Bool) (answer : (x : D) × P x → FilterAnswer) where
    abbrev pub setting_in : Runtime D P → Setting
    setting_in runtime = record {
      answers = answers_with (named_by counts answer runtime.host);
      partials = trees_of runtime.partials;
    }

    abbrev pub named_for : RuntimeBuilder D P → Text → FilterAnswer
    named_for builder = named_by counts answer builder.host
