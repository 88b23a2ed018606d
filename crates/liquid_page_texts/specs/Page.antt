-- The page of a template text, a data text and the texts of partials, in a language.
--     IsPage l texts text end      the page's text, and how it ends
-- A page whose texts aren't read has no text, and ends by why.
use Rattle.std.specs.Prelude.{◌≡◌, ◌⊎◌, List, [], ◌∷◌, map, Result, Ok, Err, String, string_bytes}
use Rattle.std.specs.declared.alloc.Global.{Global}
use Rattle.liquid_model.specs.Texts.{Text}
use Rattle.liquid_model.specs.Data.{Pairs}
use Rattle.liquid_core.specs.Held.{map_of}
use Rattle.liquid_core.specs.States.{merged_layers, new_layers}
use Rattle.liquid_model.specs.declared.error.ErrorKind.{ErrorKind}
use Rattle.liquid_core.specs.Hosts.{no_host}
use Rattle.liquid_evaluation.specs.Evaluation.{answers_with}
use Rattle.liquid_evaluation.specs.Tree.{Nodes}
use Rattle.liquid_parser.specs.Parsing.{IsOnlyTree, HasNoTree, IsOfSource}
use Rattle.liquid_language.specs.Entries.{put_entry}
use Rattle.liquid_language.specs.declared.registry.Language.{Language}
use Rattle.liquid_meaning.specs.Runs.{Nothing, Outcome}
use Rattle.liquid_meaning.specs.Meaning.{meaning}
use Rattle.liquid_language.specs.Standard.{IsStandard}
use Rattle.liquid_json.specs.Json.{data_of}

-- names and texts of partials, in their order
abbrev pub Sources : Type 0
Sources = List (Text × Text)

abbrev pub sources_of : List (String Global × String Global) → Sources
sources_of ps = map (λ p. (string_bytes p.0, string_bytes p.1)) ps

pub record PageTexts : Type 0 where
  pub template : Text
  pub «data» : Text
  pub partials : Sources

-- partials by name
abbrev pub TemplateTrees : Type 0
TemplateTrees = List (Text × Nodes)

-- the trees of these partials, put in order among those that are there; the later of one name wins
abbrev pub ArePartials : Language → Sources → TemplateTrees → TemplateTrees → Type 0
ArePartials l [] before all = all ≡ before
ArePartials l (p ∷ ps) before all = (t : Nodes) × IsOnlyTree l t p.1 ×
    ArePartials l ps (put_entry p.0 t before) all

-- the first of these partials that has no tree
abbrev pub HasBadPartial : Language → Sources → Type 0
HasBadPartial l [] = ⊥
HasBadPartial l (p ∷ ps) = HasNoTree l p.1 ⊎ ((t : Nodes) × IsOnlyTree l t p.1 × HasBadPartial l ps)

-- what texts are read as
pub record PageInputs : Type 0 where
  pub tree : Nodes
  pub «data» : Pairs
  pub partials : TemplateTrees

pub record IsRead (l : Language) (texts : PageTexts) (read : PageInputs) : Type 0 where
  pub tree : IsOnlyTree l read.tree texts.template
  pub «data» : data_of texts.«data» ≡ Ok read.«data»
  pub partials : ArePartials l texts.partials [] read.partials

-- why texts are not read: the template, the data and the partials are looked at in this order
pub data RefusesTexts (l : Language) (texts : PageTexts) : ErrorKind → Type 0 where
  no_template : {kind : ErrorKind} → HasNoTree l texts.template → IsOfSource kind →
      RefusesTexts l texts kind
  no_data : {kind : ErrorKind} {tree : Nodes} → IsOnlyTree l tree texts.template →
      data_of texts.«data» ≡ Err kind → RefusesTexts l texts kind
  bad_partial : {kind : ErrorKind} {tree : Nodes} {«data» : Pairs} →
      IsOnlyTree l tree texts.template → data_of texts.«data» ≡ Ok «data» →
      HasBadPartial l texts.partials → IsOfSource kind → RefusesTexts l texts kind

-- how deep partials may be nested in a page
abbrev pub page_outcome : PageInputs → Outcome Nothing
page_outcome read = meaning (record {
  answers = answers_with no_host;
  partials = read.partials;
}) 32 read.tree (merged_layers (new_layers (map_of read.«data»)))

pub data IsPage (l : Language) (texts : PageTexts) : Text → Result Nothing ErrorKind → Type 0 where
  page : (read : PageInputs) → IsRead l texts read →
      IsPage l texts (page_outcome read).text (page_outcome read).end
  no_page : {kind : ErrorKind} → RefusesTexts l texts kind → IsPage l texts [] (Err kind)

-- the page in the standard language
abbrev pub IsStandardPage : PageTexts → Text → Result Nothing ErrorKind → Type 0
IsStandardPage texts text end = (l : Language) × IsStandard l × IsPage l texts text end

-- the text of that page, however it ends
abbrev pub IsStandardText : PageTexts → Text → Type 0
IsStandardText texts text = (end : Result Nothing ErrorKind) × IsStandardPage texts text end
