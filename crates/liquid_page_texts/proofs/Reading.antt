-- What is known where the texts of a page are read, and where they are not.
use Rattle.std.proofs.Common.{◌≡◌, ℕ, ◌≤◌, List, [], Bool, true, false, MatchBool, Option, Ok, Err, Result, inl, inr, refl, sym, ap, subst, ◌∙◌, arith}
use Rattle.std.specs.Prelude.{⊤, ◌⊎◌}
use Rattle.std.specs.Io.KnownBytes.{Appends}
use Rattle.std.proofs.KnownBytes.{Appends-nil, Keeps-refl}
use Rattle.liquid_model.specs.Answer.{Answers, Faulted}
use Rattle.liquid_model.specs.Skipping.{AlikeKeys}
use Rattle.liquid_model.specs.Data.{Pairs}
use Rattle.liquid_model.specs.ErrorKinds.{IsKindOrMemory, is_memory, is_refusal}
use Rattle.liquid_model.specs.declared.error.Error.{Error}
use Rattle.liquid_model.specs.declared.error.ErrorKind.{ErrorKind}
use Rattle.liquid_model.specs.declared.error.ErrorKind.TheVariants.{Memory, Write}
use Rattle.liquid_evaluation.specs.Tree.{Nodes}
use Rattle.liquid_parser.specs.Parsing.{IsOnlyTree, HasNoTree, IsOfSource, MayRefuse, ParsesTo}
use Rattle.liquid_language.specs.declared.registry.Language.{Language}
use Rattle.liquid_engine.specs.Added.{AppendsPart}
use Rattle.liquid_engine.specs.Performs.{answer_of, is_refused, unit}
use Rattle.liquid_language.specs.Standard.{IsStandard}
use Rattle.liquid_engine.proofs.Joined.{memory_of}
use Rattle.liquid_core.specs.Held.{map_of, Outer}
use Rattle.liquid_model.specs.View.{pairs_view}
use Rattle.liquid_core.specs.Hosts.{no_host}
use Rattle.liquid_core.specs.declared.missing_value.Missing.TheVariants.{IsFault}
use Rattle.liquid_json.specs.Asked.{AnswersAlike}
use Rattle.liquid_json.specs.Json.{data_of}
use Rattle.liquid_meaning.specs.Reading.{Uses}
use Rattle.liquid_syntax.specs.Templates.{partials_of}
use Rattle.liquid_syntax.specs.declared.partials.Partials.{Partials}
use Rattle.liquid_uses.specs.Covered.{SeesDataAlone}
use Rattle.liquid_page_texts.specs.Page.{PageTexts, Sources, ArePartials, HasBadPartial, PageInputs, RefusesTexts, no_template, no_data, bad_partial, page, no_page, page_outcome}
use Rattle.liquid_page_texts.specs.Shown.{ReadsPageTexts, ReadsPartials, ReadsSeen, SamePage, Shows, ShowsPageOf, RanOut}

-- memory ran out, or else
unless_memory : {P R : Type 0} (b : Bool) → MatchBool b ⊤ P → (b ≡ false → P → R) → MatchBool b ⊤ R
unless_memory true h f = tt
unless_memory false h f = f refl h

unless_either : {P Q R : Type 0} (b : Bool) → MatchBool b ⊤ P → MatchBool b ⊤ Q → (P → Q → R) → MatchBool b ⊤ R
unless_either true p q f = tt
unless_either false p q f = f p q

-- a kind of a source is no refusal
of_source : (k : ErrorKind) → IsOfSource k → is_refusal k ≡ false
of_source Memory h = let low : 21 ≤ 17 = h.0 in absurd (omega arith)
of_source Write h = let low : 21 ≤ 18 = h.0 in absurd (omega arith)
of_source _ h = refl

pub template_refused : (l : Language) (texts : PageTexts) (e : Error) → ParsesTo l texts.template (Err e) → MayRefuse e.kind → ReadsPageTexts l texts (Err e)
template_refused l texts e parses kinds = unless_either (is_memory e.kind) parses kinds (λ none kind. (no_template none kind, of_source e.kind kind))

pub data_refused : (l : Language) (texts : PageTexts) (tree : Nodes) (e : Error) → IsOnlyTree l tree texts.template → Faulted e.kind (data_of texts.«data») → ReadsPageTexts l texts (Err e)
data_refused l texts tree e only faulted = unless_memory (is_memory e.kind) faulted (λ not h. (no_data only h.0, h.1))

pub partials_refused : (l : Language) (texts : PageTexts) (tree : Nodes) («data» : Pairs) (e : Error) → IsOnlyTree l tree texts.template → data_of texts.«data» ≡ Ok «data» → ReadsPartials l texts.partials [] (Err e) → ReadsPageTexts l texts (Err e)
partials_refused l texts tree «data» e only read bad = unless_memory (is_memory e.kind) bad (λ not h. (bad_partial only read h.0 h.1, of_source e.kind h.1))

-- memory ran out before the texts were read
pub memory_refused : (l : Language) (texts : PageTexts) (e : Error) → e.kind ≡ Memory → ReadsPageTexts l texts (Err e)
memory_refused l texts e is = subst (λ (k : ErrorKind). MatchBool (is_memory k) ⊤ (RefusesTexts l texts k × (is_refusal k ≡ false))) (sym is) tt

pub memory_faulted : («data» : List ℕ) (p : Partials) (nodes : Nodes) (e : Error) → e.kind ≡ Memory → ReadsSeen «data» p nodes (Err e)
memory_faulted «data» p nodes e is = subst (λ (k : ErrorKind). Faulted k (data_of «data»)) (sym is) tt

-- a run sees no more of its data than is left
same_page : (U : Uses) (p : Partials) (nodes : Nodes) (ps qs : Pairs) → AlikeKeys U ps qs → SeesDataAlone U p nodes → SamePage (partials_of p) nodes ps qs
unfolding map_of
same_page U p nodes ps qs alike alone = alone no_host 32 IsFault ps qs alike

pub seen_by : («data» : List ℕ) (p : Partials) (nodes : Nodes) (U : Uses) (r : Result Outer Error) → SeesDataAlone U p nodes → AnswersAlike (λ (m : Outer). pairs_view m.entries) U r (data_of «data») → ReadsSeen «data» p nodes r
seen_by «data» p nodes U (Ok m) alone h = (h.0, h.1, same_page U p nodes h.0 (pairs_view m.entries) h.2 alone)
seen_by «data» p nodes U (Err e) alone h = h

pub whole_by : («data» : List ℕ) (p : Partials) (nodes : Nodes) (r : Result Outer Error) → Answers (λ (m : Outer). pairs_view m.entries) r (data_of «data») → ReadsSeen «data» p nodes r
whole_by «data» p nodes (Ok m) h = (pairs_view m.entries, h, (refl, refl))
whole_by «data» p nodes (Err e) h = h

pub seen_shown : (l : Language) (texts : PageTexts) (p : Partials) (nodes : Nodes) (ps qs : Pairs) → IsOnlyTree l nodes texts.template → ArePartials l texts.partials [] (partials_of p)
    → data_of texts.«data» ≡ Ok ps → SamePage (partials_of p) nodes ps qs → ShowsPageOf l texts (record { tree = nodes; «data» = qs; partials = partials_of p })
seen_shown l texts p nodes ps qs only partials «data» same = record {
  read = record { tree = nodes; «data» = ps; partials = partials_of p };
  is_read = record { tree = only; «data» = «data»; partials = partials };
  text = same.0;
  end = same.1;
}

pub partial_refused : (l : Language) (sources left : Sources) (source : List ℕ) (e : Error) → ParsesTo l source (Err e) → MayRefuse e.kind → (HasNoTree l source → HasBadPartial l sources) → ReadsPartials l sources [] (Err e)
partial_refused l sources left source e parses kinds bad = unless_either (is_memory e.kind) parses kinds (λ none kind. (bad none, kind))

-- a fault of the same kind, unless memory ran out for its message
parses_again_by : (l : Language) (source : List ℕ) (e f : Error) (b : Bool) → is_memory f.kind ≡ b → MatchBool b ⊤ (e.kind ≡ f.kind) → ParsesTo l source (Err e) → MatchBool b ⊤ (HasNoTree l source)
parses_again_by l source e f true is same h = tt
parses_again_by l source e f false is same h = subst (λ b. MatchBool b ⊤ (HasNoTree l source)) (ap is_memory same ∙ is) h

pub parses_again : (l : Language) (source : List ℕ) (e f : Error) → IsKindOrMemory e.kind f.kind → ParsesTo l source (Err e) → ParsesTo l source (Err f)
parses_again l source e f same h = parses_again_by l source e f (is_memory f.kind) refl same h

refuses_again_by : (e f : Error) (b : Bool) → is_memory f.kind ≡ b → MatchBool b ⊤ (e.kind ≡ f.kind) → MayRefuse e.kind → MatchBool b ⊤ (IsOfSource f.kind)
refuses_again_by e f true is same h = tt
refuses_again_by e f false is same h = subst (λ b. MatchBool b ⊤ (IsOfSource f.kind)) is (subst MayRefuse same h)

pub refuses_again : (e f : Error) → IsKindOrMemory e.kind f.kind → MayRefuse e.kind → MayRefuse f.kind
refuses_again e f same h = refuses_again_by e f (is_memory f.kind) refl same h

-- ---- the page

RanOutOrShows : Language → PageTexts → Result (Unit {0}) Error → Option (List ℕ) → Type 0
RanOutOrShows l texts r o = RanOut r o o ⊎ ((x : Language) × IsStandard x × Shows x texts r o o)

refused_by : (l : Language) (texts : PageTexts) (e : Error) (o : Option (List ℕ)) (b : Bool) → IsStandard l → is_memory e.kind ≡ b → MatchBool b ⊤ (RefusesTexts l texts e.kind × (is_refusal e.kind ≡ false)) → RanOutOrShows l texts (Err e) o
unfolding RanOutOrShows
refused_by l texts e o true standard is h = inl (record { memory = memory_of e.kind is; kept = Keeps-refl o })
refused_by l texts e o false standard is h =
    inr (
      l,
      standard,
      record {
        text = [];
        end = Err e.kind;
        is_page = no_page h.0;
        begun = record { front = []; rest = []; whole = refl; appended = Appends-nil o };
        whole = λ not. Appends-nil o;
        ended = λ not. refl;
      },
    )

pub refused_shown : (l : Language) (texts : PageTexts) (e : Error) (o : Option (List ℕ)) → IsStandard l → ReadsPageTexts l texts (Err e) → RanOut (Err e) o o ⊎ ((x : Language) × IsStandard x × Shows x texts (Err e) o o)
unfolding RanOutOrShows
refused_shown l texts e o standard h = refused_by l texts e o (is_memory e.kind) standard refl h

pub page_shown : (l : Language) (texts : PageTexts) (r : PageInputs) (answer : Result (Unit {0}) Error) (old new : Option (List ℕ)) → IsStandard l → ShowsPageOf l texts r
    → (is_refused answer ≡ false → Appends old new (page_outcome r).text) → (is_refused answer ≡ false → answer_of unit answer ≡ (page_outcome r).end) → AppendsPart old new (page_outcome r).text
    → RanOut answer old new ⊎ ((x : Language) × IsStandard x × Shows x texts answer old new)
page_shown l texts r answer old new standard of whole ended begun =
    inr (
      l,
      standard,
      record {
        text = (page_outcome of.read).text;
        end = (page_outcome of.read).end;
        is_page = page of.read of.is_read;
        begun = subst (AppendsPart old new) (sym of.text) begun;
        whole = λ not. subst (Appends old new) (sym of.text) (whole not);
        ended = λ not. ended not ∙ sym of.end;
      },
    )
