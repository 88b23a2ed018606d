-- Renderings over tables of answers.
use Rattle.std.specs.Prelude.{◌≡◌, ◌⊎◌, ℕ, List, Option, Some, None, Result, Ok, Err}
use Rattle.std.specs.Prelude.{Bool, false, MatchBool, nat_lt}
use Rattle.liquid_model.specs.Data.{Datum}
use Rattle.liquid_model.specs.Maps.{Map}
use Rattle.liquid_model.specs.Texts.{Text}
use Rattle.liquid_model.specs.declared.error.ErrorKind.TheVariants.{Memory, Write}
use Rattle.liquid_evaluation.specs.Tree.{Nodes}
use Rattle.liquid_syntax.specs.Templates.{tree_of}
use Rattle.liquid_engine.specs.HostedPages.{EndsOtherwise, hosted_page}
use Rattle.liquid_engine.specs.LimitedPages.{IsPrefixOf}
use Rattle.liquid_engine.specs.Pages.{Shown, page_view}
use Rattle.liquid_engine.specs.declared.run_setting.RunSetting.{RunSetting}
use Rattle.liquid_answers.specs.Lacking.{IsLacking}
use Rattle.liquid_answers.specs.Tables.{answers_by}
use Rattle.liquid_answers.specs.declared.answers.Answers.{Answers}
use Rattle.liquid_c.specs.Calls.{OfBoth, data_of_handle, levels_of_handle, partials_of_handle}
use Rattle.liquid_c.specs.Levels.{most_levels}
use Rattle.liquid_c.specs.Served.{OverData}
use Rattle.liquid_c.specs.declared.content.Content.{Content}
use Rattle.liquid_c.specs.declared.content.Content.TheVariants as content
use Rattle.liquid_c.specs.declared.refusal.Refusal.{Refusal}
use Rattle.liquid_c.specs.declared.render.Allowed.{Allowed}
use Rattle.liquid_c.specs.declared.refusal.Refusal.TheVariants.{OtherHandle, TooManyLevels}

-- the page of these nodes over the table's answers
abbrev pub answered_by : Answers → RunSetting → List (Text × Nodes) → Map Datum → Nodes → Shown
answered_by table setting partials «data» nodes =
    hosted_page setting.missing (answers_by false table) setting.depth partials «data» nodes

-- the page over the table's answers, whose run met no call that the table lacks; a beginning of
-- its text where a limit ended it; calls that the table lacks; or memory ran out
abbrev pub ShowsAnswered : Answers → Nodes → RunSetting → Map Datum → List (Text × Nodes)
    → Result Content Refusal → Type 0
ShowsAnswered table nodes setting «data» partials (Ok (content.Page p)) =
    (page_view p ≡ answered_by table setting partials «data» nodes)
    × EndsOtherwise p
ShowsAnswered table nodes setting «data» partials (Ok (content.Ended p limit)) =
    ((page_view p).fault ≡ Some Write) × IsPrefixOf (page_view p).text
    (answered_by table setting partials «data» nodes).text
ShowsAnswered table nodes setting «data» partials (Ok (content.Lacking calls)) =
    IsLacking table calls
ShowsAnswered table nodes setting «data» partials (Ok (content.Fault e)) = e.kind ≡ Memory
ShowsAnswered table nodes setting «data» partials _ = ⊥

abbrev pub ShowsUnlessDeep : Bool → Answers → Nodes → RunSetting → Map Datum → List (Text × Nodes)
    → Result Content Refusal → Type 0
ShowsUnlessDeep is_deep table nodes setting «data» partials answer =
    MatchBool is_deep (answer ≡ Err TooManyLevels)
    (ShowsAnswered table nodes setting «data» partials answer)

abbrev pub IsHosted : Option Content → Option Content → Option Content → Option Content → Allowed
    → Result Content Refusal → Type 0
IsHosted (Some (content.Template t levels)) «data» partials (Some (content.Answers table)) allowed
    answer =
    OverData «data» (partials_of_handle partials) (tree_of t)
    (OfBoth (data_of_handle «data») (partials_of_handle partials)
    (ShowsUnlessDeep
    (nat_lt allowed.levels (most_levels allowed.setting.depth levels (levels_of_handle partials)))
    table (tree_of t) allowed.setting)) answer
IsHosted template «data» partials table allowed answer = answer ≡ Err OtherHandle
