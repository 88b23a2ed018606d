-- What a template asks of its data.
--     covered_setting answers p      the setting of a run over these partials
--     SeesAlone U p nodes      a run sees no more of its environment than U asks
--     SeesDataAlone U p nodes      a run over data sees no more of them
use Rattle.std.specs.Prelude.{◌≡◌, ℕ}
use Rattle.liquid_model.specs.Data.{Pairs}
use Rattle.liquid_model.specs.Find.{value_at}
use Rattle.liquid_model.specs.Texts.{Text}
use Rattle.liquid_core.specs.Environment.{Environment}
use Rattle.liquid_core.specs.declared.missing_value.Missing.{Missing}
use Rattle.liquid_model.specs.FilterAnswers.{FilterAnswer}
use Rattle.liquid_evaluation.specs.Evaluation.{FilterAnswers, answers_with}
use Rattle.liquid_evaluation.specs.Tree.{Nodes}
use Rattle.liquid_meaning.specs.Meaning.{Setting, meaning}
use Rattle.liquid_meaning.specs.Reading.{Uses}
use Rattle.liquid_meaning.specs.ProjectedRuns.{over_data}
use Rattle.liquid_meaning.specs.Reads.{AlikeIn, AlikeMaps, SameRuns}
use Rattle.liquid_syntax.specs.Templates.{partials_of}
use Rattle.liquid_syntax.specs.declared.partials.Partials.{Partials}

abbrev pub covered_setting : FilterAnswers → Partials → Setting
covered_setting answers p = record { answers = answers; partials = partials_of p }

-- whatever the filters of a host answer and however deep partials may nest: over environments that
-- are alike in U a run writes the same text and ends alike, and leaves such environments again
abbrev pub SeesAlone : Uses → Partials → Nodes → Type 0
SeesAlone U p nodes = (named : Text → FilterAnswer) (depth : ℕ) (e f : Environment) → AlikeIn U e f
    → (let setting = covered_setting (answers_with named) p in
    SameRuns U (meaning setting depth nodes e) (meaning setting depth nodes f))

-- so two runs over data that are alike in U write the same text and end alike
abbrev pub SeesDataAlone : Uses → Partials → Nodes → Type 0
SeesDataAlone U p nodes = (named : Text → FilterAnswer) (depth : ℕ) (missing : Missing)
    (ps qs : Pairs) →
    AlikeMaps U (λ name. value_at name ps) (λ name. value_at name qs)
    → (let setting = covered_setting (answers_with named) p in
    let o = meaning setting depth nodes (over_data missing ps) in
    let p = meaning setting depth nodes (over_data missing qs) in
    (o.text ≡ p.text) × (o.end ≡ p.end))
