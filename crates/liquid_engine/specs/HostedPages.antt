-- The page that a template shows in a run with filters of a host.
--     hosted_page missing named depth partials data nodes      the page of these nodes in a new
--       run over this data, where a missing value is this and each filter of the host answers
--       what is named
use Rattle.std.specs.Prelude.{◌≡◌, false, ℕ, List, IfSome}
use Rattle.liquid_model.specs.Texts.{Text}
use Rattle.liquid_model.specs.Data.{Datum}
use Rattle.liquid_model.specs.ErrorKinds.{is_memory}
use Rattle.liquid_model.specs.Maps.{Map}
use Rattle.liquid_core.specs.declared.missing_value.Missing.{Missing}
use Rattle.liquid_model.specs.FilterAnswers.{FilterAnswer}
use Rattle.liquid_evaluation.specs.Evaluation.{answers_with}
use Rattle.liquid_evaluation.specs.Tree.{Nodes}
use Rattle.liquid_meaning.specs.Meaning.{Setting, meaning}
use Rattle.liquid_engine.specs.Pages.{Shown, run_environment, shown}
use Rattle.liquid_engine.specs.declared.rendered_page.Page.{Page}

-- the partials by name, and what the filters of a host answer by name
abbrev pub setting_with : (Text → FilterAnswer) → List (Text × Nodes) → Setting
setting_with named partials = record { answers = answers_with named; partials = partials }

unfoldable pub hosted_page : Missing → (Text → FilterAnswer) → ℕ → List (Text × Nodes)
    → Map Datum → Nodes → Shown
hosted_page missing named depth partials «data» nodes =
    shown (meaning (setting_with named partials) depth nodes (run_environment missing «data»))

-- it doesn't end by `Memory`
abbrev pub EndsOtherwise : Page → Type 0
EndsOtherwise page = IfSome page.fault (λ e. is_memory e.kind ≡ false)
