-- The law of partials: a template means the same over any partials that have the same under the
-- names that it leads to.
--     MeansAlike ps qs nodes      the template means the same over both
use Rattle.std.specs.Prelude.{◌≡◌, ℕ, T, List}
use Rattle.liquid_model.specs.Texts.{Text}
use Rattle.liquid_model.specs.Maps.{listed}
use Rattle.liquid_core.specs.Environment.{Names}
use Rattle.liquid_evaluation.specs.Tree.{Nodes}
use Rattle.liquid_evaluation.specs.Evaluation.{FilterAnswers}
use Rattle.liquid_evaluation.specs.PartialCalls.{IsClosed}
use Rattle.liquid_meaning.specs.Meaning.{meaning}

-- under each name of N both have the same partial, or none
abbrev pub AgreeUnder : Names → List (Text × Nodes) → List (Text × Nodes) → Type 0
AgreeUnder N ps qs = (name : Text) → T (N name) → listed ps name ≡ listed qs name

-- for every filters, depth and environment
abbrev pub MeansAlike : List (Text × Nodes) → List (Text × Nodes) → Nodes → Type 0
MeansAlike ps qs nodes = (answers : FilterAnswers) (depth : ℕ)
    → meaning (record { answers = answers; partials = ps }) depth nodes ≡
    meaning (record { answers = answers; partials = qs }) depth nodes

abbrev pub PartialsInReach : Type 0
PartialsInReach = (N : Names) (ps qs : List (Text × Nodes)) (nodes : Nodes)
    → IsClosed N ps nodes → AgreeUnder N ps qs → MeansAlike ps qs nodes
