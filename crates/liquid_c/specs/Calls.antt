-- What calls make of what their handles hold.
use Rattle.std.specs.Prelude.{◌≡◌, ◌⊎◌, ℕ, ◌-◌, ◌^◌, List, [], Option, Some, None, Result, Ok, Err}
use Rattle.std.specs.Prelude.{Bool, not, ◌&&◌, MatchBool, ⊤, if◌then◌else◌, nat_eq, nat_lt}
use Rattle.std.specs.Prelude.{option_map}
use Rattle.std.specs.Str.{IsUtf8}
use Rattle.liquid_model.specs.Answer.{Faulted}
use Rattle.liquid_model.specs.Data.{Datum}
use Rattle.liquid_model.specs.Maps.{Map, empty}
use Rattle.liquid_model.specs.Texts.{Text}
use Rattle.liquid_model.specs.ErrorKinds.{is_memory, number_of}
use Rattle.liquid_model.specs.View.{pairs_view}
use Rattle.liquid_model.specs.declared.error.ErrorKind.TheVariants.{Memory, Write}
use Rattle.liquid_core.specs.Held.{held as map_held}
use Rattle.liquid_core.specs.declared.missing_value.Missing.{Missing}
use Rattle.liquid_core.specs.declared.missing_value.Missing.TheVariants.{IsFault, IsNil}
use Rattle.liquid_evaluation.specs.Tree.{Nodes}
use Rattle.liquid_language.specs.Entries.{put_entry}
use Rattle.liquid_parser.specs.Parsing.{IsOnlyTree, HasNoTree, MayRefuse}
use Rattle.liquid_syntax.specs.Templates.{template_nodes, tree_of, partials_of}
use Rattle.liquid_language.specs.declared.registry.Language.{Language}
use Rattle.liquid_syntax.specs.declared.partials.Partials.{Partials}
use Rattle.liquid_syntax.specs.declared.template.Template.{Template}
use Rattle.liquid_engine.specs.LimitedPages.{IsPrefixOf}
use Rattle.liquid_engine.specs.HostedPages.{hosted_page}
use Rattle.liquid_engine.specs.Pages.{Shown, page_view, strict_setting}
use Rattle.liquid_engine.specs.declared.run_setting.RunSetting.{RunSetting}
use Rattle.liquid_language.specs.Standard.{IsStandard}
use Rattle.liquid_answers.specs.Own.{own_answers}
use Rattle.liquid_json.specs.Json.{data_of}
use Rattle.liquid_c.specs.Levels.{levels_in, no_levels, greater_of, most_levels}
use Rattle.liquid_c.specs.Numbers.{number_of_refusal}
use Rattle.liquid_c.specs.Served.{OverData}
use Rattle.liquid_c.specs.declared.content.Content.{Content}
use Rattle.liquid_c.specs.declared.content.Content.TheVariants as content
use Rattle.liquid_c.specs.declared.levels.TemplateLevels.{TemplateLevels}
use Rattle.liquid_c.specs.declared.handle_content.HandleContent.{HandleContent}
use Rattle.liquid_c.specs.declared.handle_content.HandleContent.TheVariants.{Own, Shared}
use Rattle.liquid_c.specs.declared.refusal.Refusal.{Refusal}
use Rattle.liquid_c.specs.declared.render.Allowed.{Allowed}
use Rattle.liquid_c.specs.declared.render.RenderLimits.{RenderLimits}
use Rattle.liquid_c.specs.declared.refusal.Refusal.TheVariants.{SharedHandle, NoText, OtherHandle}
use Rattle.liquid_c.specs.declared.refusal.Refusal.TheVariants.{TooManyLevels, NoSuchMissing}

-- the standard language, or memory ran out
abbrev pub IsLanguage : Result Content Refusal → Type 0
IsLanguage (Ok (content.Language l)) = IsStandard l
IsLanguage (Ok (content.Fault e)) = e.kind ≡ Memory
IsLanguage _ = ⊥

abbrev pub AreNoPartials : Result Content Refusal → Type 0
AreNoPartials (Ok (content.Partials p levels)) = (partials_of p ≡ []) × (levels ≡ no_levels)
AreNoPartials _ = ⊥

-- R holds where the bytes are a text, and else the call can't be
abbrev pub ForUtf8Text : List ℕ → (Result Content Refusal → Type 0) → Result Content Refusal →
    Type 0
ForUtf8Text bytes R answer = (IsUtf8 bytes × R answer) ⊎
    ((IsUtf8 bytes → ⊥) × (answer ≡ Err NoText))

-- the template that the source is, with the levels that it reaches; or why it is none: by a kind of
-- a source, or since memory ran out
abbrev pub ParsesSource : Language → Text → Result Content Refusal → Type 0
ParsesSource l source (Ok (content.Template t levels)) =
    IsOnlyTree l (tree_of t) source × (levels ≡ levels_in (template_nodes t))
ParsesSource l source (Ok (content.Fault e)) = MayRefuse e.kind ×
    MatchBool (is_memory e.kind) ⊤ (HasNoTree l source)
ParsesSource l source _ = ⊥

abbrev pub IsParse : Option Content → List ℕ → Result Content Refusal → Type 0
IsParse (Some (content.Language l)) source answer =
    ForUtf8Text source (ParsesSource l source) answer
IsParse _ source answer = answer ≡ Err OtherHandle

-- the data that the text of JSON gives, or why it gives none
abbrev pub ReadsData : Text → Result Content Refusal → Type 0
ReadsData source (Ok (content.Data d)) = data_of source ≡ Ok (pairs_view d.entries)
ReadsData source (Ok (content.Fault e)) = Faulted e.kind (data_of source)
ReadsData source _ = ⊥

abbrev pub IsData : List ℕ → Result Content Refusal → Type 0
IsData source answer = ForUtf8Text source (ReadsData source) answer

-- the data in a handle, which is empty where the handle holds nothing
abbrev pub data_of_handle : Option Content → Option (Map Datum)
data_of_handle None = Some empty
data_of_handle (Some (content.Data d)) = Some (map_held d)
data_of_handle (Some (content.DataPart d uses)) = Some (map_held d)
data_of_handle (Some _) = None

-- likewise the partials
abbrev pub partials_of_handle : Option Content → Option (List (Text × Nodes))
partials_of_handle None = Some []
partials_of_handle (Some (content.Partials p levels)) = Some (partials_of p)
partials_of_handle (Some _) = None

-- the most levels that one of them reaches by itself
abbrev pub levels_of_handle : Option Content → TemplateLevels
levels_of_handle (Some (content.Partials p levels)) = levels
levels_of_handle _ = no_levels

-- the page of these nodes, where the filters of a host are those of the library
abbrev pub own_page : RunSetting → List (Text × Nodes) → Map Datum → Nodes → Shown
own_page setting partials «data» nodes =
    hosted_page setting.missing own_answers setting.depth partials «data» nodes

-- that page, unless memory ran out
abbrev pub ShowsNodes : Nodes → RunSetting → Map Datum → List (Text × Nodes)
    → Result Content Refusal → Type 0
ShowsNodes nodes setting «data» partials (Ok (content.Page p)) =
    page_view p ≡ own_page setting partials «data» nodes
ShowsNodes nodes setting «data» partials (Ok (content.Fault e)) = e.kind ≡ Memory
ShowsNodes nodes setting «data» partials _ = ⊥

-- the same, or a beginning of its text where a limit ended it
abbrev pub ShowsWithin : Nodes → RunSetting → Map Datum → List (Text × Nodes)
    → Result Content Refusal → Type 0
ShowsWithin nodes setting «data» partials (Ok (content.Ended p limit)) =
    ((page_view p).fault ≡ Some Write)
    × IsPrefixOf (page_view p).text (own_page setting partials «data» nodes).text
ShowsWithin nodes setting «data» partials answer = ShowsNodes nodes setting «data» partials answer

-- R holds where data and partials are there, and else the call can't be
abbrev pub OfBoth : Option (Map Datum) → Option (List (Text × Nodes))
    → (Map Datum → List (Text × Nodes) → Result Content Refusal → Type 0) → Result Content Refusal →
    Type 0
OfBoth (Some «data») (Some partials) R answer = R «data» partials answer
OfBoth None _ R answer = answer ≡ Err OtherHandle
OfBoth (Some «data») None R answer = answer ≡ Err OtherHandle

-- a run that could reach too many levels isn't begun, and any other shows its page
abbrev pub ShowsUnless : Bool → Bool → Nodes → RunSetting → Map Datum → List (Text × Nodes)
    → Result Content Refusal → Type 0
ShowsUnless is_deep is_limited nodes setting «data» partials answer =
    MatchBool is_deep (answer ≡ Err TooManyLevels)
    (MatchBool is_limited
    (ShowsWithin nodes setting «data» partials answer)
    (ShowsNodes nodes setting «data» partials answer))

-- what stands for no limit on bytes, or on turns: the greatest number of 64 bits
abbrev pub any_number : ℕ
any_number = 2 ^ 64 - 1

-- any other is a limit
abbrev pub has_limit : ℕ → ℕ → Bool
has_limit bytes turns = not (nat_eq bytes any_number && nat_eq turns any_number)

abbrev pub IsRendering : Option Content → Option Content → Option Content → Allowed
    → Result Content Refusal → Type 0
IsRendering (Some (content.Template t levels)) «data» partials allowed answer =
    OverData «data» (partials_of_handle partials) (tree_of t)
    (OfBoth (data_of_handle «data») (partials_of_handle partials)
    (ShowsUnless
    (nat_lt allowed.levels (most_levels allowed.setting.depth levels (levels_of_handle partials)))
    (has_limit allowed.bytes allowed.turns) (tree_of t) allowed.setting))
    answer
IsRendering _ «data» partials allowed answer = answer ≡ Err OtherHandle

-- the bound where a caller sets none
abbrev pub usual_levels : ℕ
usual_levels = 400

abbrev pub bound_of : ℕ → ℕ
bound_of asked = if nat_eq asked 0 then usual_levels else asked

-- what becomes of a missing value: a fault by 0, and nil by 1
abbrev pub missing_numbered : ℕ → Option Missing
missing_numbered asked = if nat_eq asked 0 then Some IsFault
    else (if nat_eq asked 1 then Some IsNil else None)

-- what a run may do where its caller sets nothing but the depth
abbrev pub usually_allowed : ℕ → Allowed
usually_allowed depth = record {
  setting = strict_setting depth;
  levels = usual_levels;
  bytes = any_number;
  turns = any_number;
}

-- what a run may do by these limits, where their number says something of missing values
abbrev pub allowed_by_limits : ℕ → RenderLimits → Option Allowed
allowed_by_limits depth limits = option_map (λ missing. record {
  setting = record { depth = depth; missing = missing };
  levels = bound_of limits.levels;
  bytes = limits.bytes;
  turns = limits.turns;
}) (missing_numbered limits.missing)

-- R holds of what a run may do, where that is known, and else the call can't be
abbrev pub WhereAllowed : Option Allowed → (Allowed → Result Content Refusal → Type 0)
    → Result Content Refusal → Type 0
WhereAllowed (Some allowed) R answer = R allowed answer
WhereAllowed None R answer = answer ≡ Err NoSuchMissing

-- ---- a partial put in

-- the handle holds these partials, and `levels` is the most that any of them reaches
abbrev pub Holds : Option HandleContent → List (Text × Nodes) → TemplateLevels → Type 0
Holds (Some (Own (content.Partials p most))) trees levels =
    (partials_of p ≡ trees) × (most ≡ levels)
Holds _ trees levels = ⊥

-- the template now stands among the partials, and its handle holds nothing;  memory ran out, and
-- nothing changed;  the name is no text
pub data InsertsPartial (old : Partials) (most : TemplateLevels) (name : List ℕ) (t : Template)
    (levels : TemplateLevels)
    (number : ℕ) (partials template was : Option HandleContent) : Type 0 where
  done : IsUtf8 name → number ≡ 0 → Holds partials (put_entry name (tree_of t) (partials_of old))
      (greater_of most levels) → template ≡ None →
      InsertsPartial old most name t levels number partials template was
  refused : IsUtf8 name → number ≡ number_of Memory → Holds partials (partials_of old) most →
      template ≡ was → InsertsPartial old most name t levels number partials template was
  no_text : (IsUtf8 name → ⊥) → number ≡ number_of_refusal NoText →
      Holds partials (partials_of old) most → template ≡ was →
      InsertsPartial old most name t levels number partials template was

-- what is shared isn't changed, and doesn't move
abbrev pub IsInsertion : Option HandleContent → List ℕ → Option HandleContent → ℕ
    → Option HandleContent → Option HandleContent → Type 0
IsInsertion (Some (Own (content.Partials p most))) name (Some (Own (content.Template t levels)))
    number
    partials template =
    InsertsPartial p most name t levels number partials template
    (Some (Own (content.Template t levels)))
IsInsertion (Some (Shared c)) name (Some was) number partials template =
    (number ≡ number_of_refusal SharedHandle) × (partials ≡ Some (Shared c)) × (template ≡ Some was)
IsInsertion (Some (Own (content.Partials p most))) name (Some (Shared c)) number partials template =
    (number ≡ number_of_refusal SharedHandle)
    × (partials ≡ Some (Own (content.Partials p most))) × (template ≡ Some (Shared c))
IsInsertion old name was number partials template = (number ≡ number_of_refusal OtherHandle) ×
    (partials ≡ old) × (template ≡ was)
