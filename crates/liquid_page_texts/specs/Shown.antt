-- What reading the texts of a page answers, and what showing the page does.
use Rattle.std.specs.Prelude.{◌≡◌, ℕ, List, false, MatchBool, ⊤, IsErrAnd, Result, Ok, Err, Option}
use Rattle.std.specs.Io.KnownBytes.{Appends, Keeps}
use Rattle.liquid_model.specs.Texts.{Text}
use Rattle.liquid_model.specs.ErrorKinds.{is_memory, is_refusal}
use Rattle.liquid_model.specs.Data.{Pairs}
use Rattle.liquid_model.specs.View.{pairs_view}
use Rattle.liquid_model.specs.declared.error.Error.{Error}
use Rattle.liquid_model.specs.declared.error.ErrorKind.{ErrorKind}
use Rattle.liquid_model.specs.declared.error.ErrorKind.TheVariants.{Memory}
use Rattle.liquid_model.specs.Answer.{Faulted}
use Rattle.liquid_core.specs.Held.{Outer}
use Rattle.liquid_json.specs.Json.{data_of}
use Rattle.liquid_evaluation.specs.Tree.{Nodes}
use Rattle.liquid_syntax.specs.Templates.{tree_of, partials_of}
use Rattle.liquid_parser.specs.Parsing.{IsOfSource}
use Rattle.liquid_language.specs.declared.registry.Language.{Language}
use Rattle.liquid_syntax.specs.declared.partials.Partials.{Partials}
use Rattle.liquid_engine.specs.Added.{AppendsPart}
use Rattle.liquid_engine.specs.Performs.{answer_of, is_refused, unit}
use Rattle.liquid_language.specs.Standard.{IsStandard}
use Rattle.liquid_meaning.specs.Runs.{Nothing}
use Rattle.liquid_page_texts.specs.Page.{Sources, PageTexts, TemplateTrees, ArePartials}
use Rattle.liquid_page_texts.specs.Page.{HasBadPartial, PageInputs}
use Rattle.liquid_page_texts.specs.Page.{IsRead, RefusesTexts, IsPage, page_outcome}
use Rattle.liquid_page_texts.specs.declared.page_from_texts.ReadTexts.{ReadTexts}

abbrev pub page_inputs_view : ReadTexts → PageInputs
page_inputs_view r = record {
  tree = tree_of r.template;
  «data» = pairs_view r.«data».entries;
  partials = partials_of r.partials;
}

-- the page of r is that of the texts: the same text and the same end, though of the data only what
-- a run can see may be left
pub record ShowsPageOf (l : Language) (texts : PageTexts) (r : PageInputs) : Type 0 where
  pub read : PageInputs
  pub is_read : IsRead l texts read
  pub text : (page_outcome read).text ≡ (page_outcome r).text
  pub end : (page_outcome read).end ≡ (page_outcome r).end

-- a run over these data writes the same text as one over those, and ends alike
abbrev pub SamePage : TemplateTrees → Nodes → Pairs → Pairs → Type 0
SamePage partials tree ps qs =
    let whole = page_outcome (record { tree = tree; «data» = ps; partials = partials }) in
    let seen = page_outcome (record { tree = tree; «data» = qs; partials = partials }) in
    (whole.text ≡ seen.text) × (whole.end ≡ seen.end)

-- data that show the page of those of the text; or why there are none, unless memory ran out
abbrev pub ReadsSeen : Text → Partials → Nodes → Result Outer Error → Type 0
ReadsSeen «data» p nodes (Ok m) = (ps : Pairs) × (data_of «data» ≡ Ok ps)
    × SamePage (partials_of p) nodes ps (pairs_view m.entries)
ReadsSeen «data» p nodes (Err e) = Faulted e.kind (data_of «data»)

-- the texts, read; or why they are not, unless memory ran out
abbrev pub ReadsPageTexts : Language → PageTexts → Result ReadTexts Error → Type 0
ReadsPageTexts l texts (Ok r) = ShowsPageOf l texts (page_inputs_view r)
ReadsPageTexts l texts (Err e) = MatchBool (is_memory e.kind) ⊤ (RefusesTexts l texts e.kind ×
    (is_refusal e.kind ≡ false))

-- the partials after those that are there; or that one of them has no tree, unless memory ran out
abbrev pub ReadsPartials : Language → Sources → TemplateTrees → Result Partials Error → Type 0
ReadsPartials l sources before (Ok p) = ArePartials l sources before (partials_of p)
ReadsPartials l sources before (Err e) = MatchBool (is_memory e.kind) ⊤ (HasBadPartial l sources ×
    IsOfSource e.kind)

-- what was written is a beginning of a page's text. Unless memory ran out or a write failed, it is
-- all of that, and the answer is its end
pub record Shows (l : Language) (texts : PageTexts) (r : Result (Unit {0}) Error)
    (old new : Option (List ℕ)) : Type 0 where
  pub text : Text
  pub end : Result Nothing ErrorKind
  pub is_page : IsPage l texts text end
  pub begun : AppendsPart old new text
  pub whole : is_refused r ≡ false → Appends old new text
  pub ended : is_refused r ≡ false → answer_of unit r ≡ end

-- the page in the standard language is shown
abbrev pub ShowsStandard : PageTexts → Result (Unit {0}) Error → Option (List ℕ) → Option (List ℕ) →
    Type 0
ShowsStandard texts r old new = (l : Language) × IsStandard l × Shows l texts r old new

-- before anything was written, memory ran out
pub record RanOut (r : Result (Unit {0}) Error) (old new : Option (List ℕ)) : Type 0 where
  pub memory : IsErrAnd r (λ e. e.kind ≡ Memory)
  pub kept : Keeps old new
