-- Which documents a change of a site's sources touches: the others come to what they came to.
--     SeesIn U partials nodes      a run sees no more of its data than U asks
--     IsUntouched      what a document can see is alike in two sources of a site
--     UntouchedSitePages, UntouchedDocuments      such a document comes to the same
--     kept_outcomes      the outcomes in which those that are touched alone are made anew
--     KeptIsBuilt      these are the outcomes of building all from nothing
use Rattle.std.specs.Prelude.{◌≡◌, ⊤, ℕ, Bool, true, false, cond, List, [], ◌∷◌, map, Result, Ok}
use Rattle.liquid_model.specs.Data.{Pairs}
use Rattle.liquid_model.specs.Texts.{Text}
use Rattle.liquid_core.specs.Environment.{Environment}
use Rattle.liquid_core.specs.Held.{map_of}
use Rattle.liquid_model.specs.FilterAnswers.{FilterAnswer}
use Rattle.liquid_evaluation.specs.Evaluation.{answers_with}
use Rattle.liquid_evaluation.specs.Tree.{Nodes}
use Rattle.liquid_meaning.specs.Meaning.{Setting, meaning}
use Rattle.liquid_meaning.specs.Reading.{Uses}
use Rattle.liquid_meaning.specs.Reads.{AlikeIn, AlikeMaps, SameRuns}
use Rattle.liquid_site_build.specs.Built.{SiteRules, PageOutcome, document_scope, page_scope}
use Rattle.liquid_site_build.specs.Built.{document_outcome, site_page_outcome, DocumentOutcome}
use Rattle.liquid_site_build.specs.Built.{outcome_by}
use Rattle.liquid_site_build.specs.Chains.{layout_chain}
use Rattle.liquid_site_build.specs.Sources.{SiteDocument, SiteText, SiteSources}

-- over environments that are alike in U a run writes the same text and ends alike, whatever the
-- filters of a host answer; `uses_of` of the crate of uses finds such a U for a template
abbrev pub SeesIn : Uses → List (Text × Nodes) → Nodes → Type 0
SeesIn U partials nodes = (named : Text → FilterAnswer) (depth : ℕ) (e f : Environment) →
    AlikeIn U e f → SameRuns U
    (meaning (record { answers = answers_with named; partials = partials }) depth nodes e)
    (meaning (record { answers = answers_with named; partials = partials }) depth nodes f)

abbrev pub SeeIn : Uses → List (Text × Nodes) → List SiteText → Type 0
SeeIn U partials [] = ⊤
SeeIn U partials (l ∷ ls) = SeesIn U partials l.nodes × SeeIn U partials ls

abbrev pub AlikePairs : Uses → Pairs → Pairs → Type 0
AlikePairs U ps qs = AlikeMaps U (map_of ps) (map_of qs)

-- over the same data a template shows the same: both have the same partials, and runs go the same
pub record SameEngine (s t : SiteSources) : Type 0 where
  pub partials : s.partials ≡ t.partials
  pub setting : s.setting ≡ t.setting

-- the document has the same layouts, and their templates see of the site what is alike
pub record IsUntouched (rules : SiteRules) (s t : SiteSources) (d : SiteDocument) : Type 0 where
  pub engine : SameEngine s t
  pub uses : Uses
  pub layouts : List SiteText
  pub before : layout_chain s.layouts d.1.front ≡ Ok layouts
  pub after : layout_chain t.layouts d.1.front ≡ Ok layouts
  pub sees : SeesIn uses s.partials d.1.nodes
  pub see : SeeIn uses s.partials layouts
  pub alike : AlikePairs uses (page_scope rules s d) (page_scope rules t d)

-- a page of both that is untouched comes to the same
abbrev pub UntouchedSitePages : Type 0
UntouchedSitePages = (rules : SiteRules) (s t : SiteSources) (d : SiteDocument) →
    IsUntouched rules s t d → site_page_outcome rules s d ≡ site_page_outcome rules t d

-- a document of a collection too, where also what its own text sees is alike
abbrev pub UntouchedDocuments : Type 0
UntouchedDocuments = (rules : SiteRules) (s t : SiteSources) (d : SiteDocument)
    (u : IsUntouched rules s t d) →
    AlikePairs u.uses (document_scope s d) (document_scope t d) →
    document_outcome rules s d ≡ document_outcome rules t d

-- ---- rounds

-- the outcomes of documents: those that are touched anew, and the others as they were
abbrev pub kept_outcomes : (SiteDocument → Bool) → (SiteDocument → PageOutcome) →
    (SiteDocument → PageOutcome) → List SiteDocument → List DocumentOutcome
kept_outcomes touched fresh held ds = map (outcome_by (λ d. cond (touched d) (fresh d) (held d))) ds

abbrev pub KeptIsBuilt : Type 0
KeptIsBuilt = (rules : SiteRules) (s t : SiteSources) (touched : SiteDocument → Bool) →
    ((d : SiteDocument) → touched d ≡ false → IsUntouched rules s t d) →
    kept_outcomes touched (site_page_outcome rules t) (site_page_outcome rules s) t.pages
    ≡ map (outcome_by (site_page_outcome rules t)) t.pages
