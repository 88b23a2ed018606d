-- Pages whose filters of a host answer by a table.
use Rattle.std.specs.Prelude.{ℕ, List, false, ⊤}
use Rattle.liquid_model.specs.Data.{Datum}
use Rattle.liquid_model.specs.Maps.{Map}
use Rattle.liquid_model.specs.Texts.{Text}
use Rattle.liquid_core.specs.declared.missing_value.Missing.{Missing}
use Rattle.liquid_evaluation.specs.Tree.{Nodes}
use Rattle.liquid_engine.specs.HostedPages.{EndsOtherwise, hosted_page}
use Rattle.liquid_engine.specs.LimitedPages.{PageWithin}
use Rattle.liquid_answers.specs.Lacking.{AreShort, IsLacking, calls_in}
use Rattle.liquid_answers.specs.Tables.{answers_by}
use Rattle.liquid_answers.specs.declared.answers.Answers.{Answers}
use Rattle.liquid_answers.specs.declared.answered_page.Answered.{Answered}
use Rattle.liquid_answers.specs.declared.answered_page.Answered.TheVariants as answered

-- The page over the table's answers. It doesn't end by `Memory`, as it would at a call that the
-- table lacks, so the run met none. Or calls that the table lacks.
abbrev pub IsAnswered : Answers → Missing → ℕ → List (Text × Nodes) → Map Datum → Nodes → Answered
    → Type 0
IsAnswered table missing depth partials «data» nodes (answered.Page p) =
    PageWithin (hosted_page missing (answers_by false table) depth partials «data» nodes) p
    × EndsOtherwise p.page
IsAnswered table missing depth partials «data» nodes (answered.Lacking calls) =
    IsLacking table calls

-- where calls are listed, all but the last have at most 1 MiB in JSON
abbrev pub IsShort : Answered → Type 0
IsShort (answered.Page p) = ⊤
IsShort (answered.Lacking calls) = AreShort (calls_in calls)
