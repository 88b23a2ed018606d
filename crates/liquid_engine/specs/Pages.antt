-- The page that a template shows in a run of its own.
--     shown o      the text of a run, and the kind of the fault that it ended by
--     page_over depth partials data nodes      the page of these nodes in a new run over this
--       data, without filters of a host
--     page_in missing depth partials data nodes      the same, where a missing value is this
--     page_by setting partials data nodes      the same, where the run goes by this setting
use Rattle.std.specs.Prelude.{ℕ, List, Option, Some, None, Result, Ok, Err, option_map}
use Rattle.std.specs.Prelude.{string_bytes}
use Rattle.liquid_model.specs.Texts.{Text}
use Rattle.liquid_model.specs.Data.{Datum}
use Rattle.liquid_model.specs.Maps.{Map}
use Rattle.liquid_model.specs.declared.error.Error.{Error}
use Rattle.liquid_model.specs.declared.error.ErrorKind.{ErrorKind}
use Rattle.liquid_core.specs.Environment.{Environment}
use Rattle.liquid_core.specs.Hosts.{no_host}
use Rattle.liquid_core.specs.States.{merged_layers, new_layers, with_missing}
use Rattle.liquid_core.specs.declared.missing_value.Missing.{Missing}
use Rattle.liquid_core.specs.declared.missing_value.Missing.TheVariants.{IsFault}
use Rattle.liquid_evaluation.specs.Evaluation.{answers_with}
use Rattle.liquid_evaluation.specs.Tree.{Nodes}
use Rattle.liquid_meaning.specs.Runs.{Nothing, Outcome}
use Rattle.liquid_meaning.specs.Meaning.{Setting, meaning}
use Rattle.liquid_engine.specs.Performs.{answer_of, unit}
use Rattle.liquid_engine.specs.declared.rendered_page.Page.{Page}
use Rattle.liquid_engine.specs.declared.run_setting.RunSetting.{RunSetting}

-- a page: its text, and the kind of the fault that it ends by, where there is one
pub record Shown : Type 0 where
  pub text : Text
  pub fault : Option ErrorKind

abbrev pub page_view : Page → Shown
page_view page = record {
  text = string_bytes page.text;
  fault = option_map (λ e. e.kind) page.fault;
}

abbrev pub fault_of : Result Nothing ErrorKind → Option ErrorKind
fault_of (Ok done) = None
fault_of (Err kind) = Some kind

abbrev pub shown : Outcome Nothing → Shown
shown o = record { text = o.text; fault = fault_of o.end }

-- a text that was written, and how the run that wrote it ended
abbrev pub ended_page : Text → Result (Unit {0}) Error → Shown
ended_page text answer = record { text = text; fault = fault_of (answer_of unit answer) }

-- the partials by name, and no filters of a host
abbrev pub setting_over : List (Text × Nodes) → Setting
setting_over partials = record { answers = answers_with no_host; partials = partials }

-- the environment of a new run: the data alone, and what becomes of a missing value
abbrev pub run_environment : Missing → Map Datum → Environment
run_environment missing «data» = merged_layers (with_missing missing (new_layers «data»))

-- where a missing value is a fault
abbrev pub new_run_environment : Map Datum → Environment
new_run_environment = run_environment IsFault

unfoldable pub page_in : Missing → ℕ → List (Text × Nodes) → Map Datum → Nodes → Shown
page_in missing depth partials «data» nodes =
    shown (meaning (setting_over partials) depth nodes (run_environment missing «data»))

-- a missing value is a fault of it
abbrev pub page_over : ℕ → List (Text × Nodes) → Map Datum → Nodes → Shown
page_over = page_in IsFault

abbrev pub page_by : RunSetting → List (Text × Nodes) → Map Datum → Nodes → Shown
page_by setting = page_in setting.missing setting.depth

-- the setting in which a missing value is a fault
abbrev pub strict_setting : ℕ → RunSetting
strict_setting depth = record { depth = depth; missing = IsFault }
