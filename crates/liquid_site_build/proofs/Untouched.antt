-- A page whose templates see what is alike comes to the same.
use Rattle.std.proofs.Common.{◌≡◌, ℕ, Bool, true, false, cond, List, [], ◌∷◌, map, Result, Ok, Err, refl, sym, ap, ◌∙◌, subst, bytes_eq, codes, Option, Some}
use Rattle.std.specs.Map.{update}
use Rattle.liquid_model.specs.Data.{Datum, text, object, Pairs, put}
use Rattle.liquid_model.specs.Maps.{Map}
use Rattle.liquid_model.specs.Texts.{Text}
use Rattle.liquid_model.specs.Uses.{Use, Alike}
use Rattle.liquid_model.proofs.Alike.{alike_same}
use Rattle.liquid_model.proofs.Skipping.{put_in_both}
use Rattle.liquid_core.specs.Held.{map_of}
use Rattle.liquid_core.specs.declared.missing_value.Missing.{Missing}
use Rattle.liquid_model.specs.FilterAnswers.{FilterAnswer}
use Rattle.liquid_evaluation.specs.Tree.{Nodes}
use Rattle.liquid_engine.specs.HostedPages.{hosted_page}
use Rattle.liquid_engine.specs.Pages.{Shown, fault_of, run_environment}
use Rattle.liquid_meaning.specs.Reading.{Uses}
use Rattle.liquid_meaning.specs.Reads.{AlikeMaps}
use Rattle.liquid_site_build.specs.Built.{SiteRules, PageFault, PageOutcome, in_document, in_layout, no_chain, run_over, made, converted, layout_scope, laid_out, in_chain, page_scope, document_scope, document_content, page_content, site_page_outcome, document_outcome, outcome_with, DocumentOutcome, outcome_by}
use Rattle.liquid_site_build.specs.Chains.{layout_chain}
use Rattle.liquid_site_build.specs.Kept.{AlikePairs, SeesIn, SeeIn, SameEngine, IsUntouched, UntouchedSitePages, UntouchedDocuments, KeptIsBuilt, kept_outcomes}
use Rattle.liquid_site_build.specs.Sources.{SiteDocument, SiteText, SiteSources}

-- a run over data that are alike in what it sees
hosted_alike : (U : Uses) (partials : List (Text × Nodes)) (nodes : Nodes) → SeesIn U partials nodes → (m n : Map Datum) → AlikeMaps U m n
    → (missing : Missing) (named : Text → FilterAnswer) (depth : ℕ) → hosted_page missing named depth partials m nodes ≡ hosted_page missing named depth partials n nodes
unfolding hosted_page
hosted_alike U partials nodes sees m n alike missing named depth =
    let runs = sees named depth (run_environment missing m) (run_environment missing n)
    (record { local = λ name. alike_same (U name) _; assigned = λ name. alike_same (U name) _; counters = λ name. alike_same (U name) _; globals = alike; registers = refl; missing = refl }) in
    λ i. record { text = runs.text i; fault = fault_of (runs.end i) }

-- the same engine shows the same
same_engine : (rules : SiteRules) (s t : SiteSources) → SameEngine s t → (ps : Pairs) (nodes : Nodes) → run_over rules s ps nodes ≡ run_over rules t ps nodes
same_engine rules s t e ps nodes = λ i. hosted_page ((e.setting i).missing) rules.answers ((e.setting i).depth) (e.partials i) (map_of ps) nodes

run_same : (rules : SiteRules) (s t : SiteSources) → SameEngine s t → (U : Uses) (nodes : Nodes) → SeesIn U s.partials nodes → (ps qs : Pairs) → AlikePairs U ps qs
    → run_over rules s ps nodes ≡ run_over rules t qs nodes
run_same rules s t e U nodes sees ps qs alike = hosted_alike U s.partials nodes sees (map_of ps) (map_of qs) alike s.setting.missing rules.answers s.setting.depth ∙ same_engine rules s t e qs nodes

-- a value more, the same in both
put_alike : (U : Uses) (ps qs : Pairs) (name : Text) (d : Datum) → AlikePairs U ps qs → AlikePairs U (put name d ps) (put name d qs)
unfolding map_of
put_alike U ps qs name d alike = put_in_both U ps qs name d d alike (alike_same (U name) (Some d))

layout_alike : (U : Uses) (ps qs : Pairs) (content : Text) (l : SiteText) → AlikePairs U ps qs → AlikePairs U (layout_scope ps content l) (layout_scope qs content l)
layout_alike U ps qs content l alike = put_alike U _ _ (codes "layout") (object l.front) (put_alike U ps qs (codes "content") (text content) alike)

pub laid_out_fault : (rules : SiteRules) (s : SiteSources) (m : Pairs) (ls : List SiteText) (why : PageFault) → laid_out rules s m ls (Err why) ≡ Err why
laid_out_fault rules s m [] why = refl
laid_out_fault rules s m (l ∷ ls) why = refl

laid_out_same : (rules : SiteRules) (s t : SiteSources) → SameEngine s t → (U : Uses) (m n : Pairs) → AlikePairs U m n → (ls : List SiteText) → SeeIn U s.partials ls
    → (content : PageOutcome) → laid_out rules s m ls content ≡ laid_out rules t n ls content
laid_out_same rules s t e U m n alike [] see content = refl
laid_out_same rules s t e U m n alike (l ∷ ls) see (Err why) = refl
laid_out_same rules s t e U m n alike (l ∷ ls) see (Ok content) =
    ap (λ shown. laid_out rules s m ls (made in_layout shown)) (run_same rules s t e U l.nodes see.0 (layout_scope m content l) (layout_scope n content l) (layout_alike U m n content l alike))
    ∙ laid_out_same rules s t e U m n alike ls see.1 (made in_layout (run_over rules t (layout_scope n content l) l.nodes))

outcome_same : (rules : SiteRules) (s t : SiteSources) (d : SiteDocument) → IsUntouched rules s t d → (content : PageOutcome) → outcome_with rules s content d ≡ outcome_with rules t content d
outcome_same rules s t d u content =
    ap (λ chain. in_chain rules s (page_scope rules s d) chain content) u.before
    ∙ laid_out_same rules s t u.engine u.uses (page_scope rules s d) (page_scope rules t d) u.alike u.layouts u.see content
    ∙ ap (λ chain. in_chain rules t (page_scope rules t d) chain content) (sym u.after)

pub untouched_page : UntouchedSitePages
untouched_page rules s t d u =
    ap (λ shown. outcome_with rules s (converted rules d.0 (made in_document shown)) d) (run_same rules s t u.engine u.uses d.1.nodes u.sees (page_scope rules s d) (page_scope rules t d) u.alike)
    ∙ outcome_same rules s t d u (page_content rules t d)

pub untouched_document : UntouchedDocuments
untouched_document rules s t d u alike =
    ap (λ shown. outcome_with rules s (converted rules d.0 (made in_document shown)) d) (run_same rules s t u.engine u.uses d.1.nodes u.sees (document_scope s d) (document_scope t d) alike)
    ∙ outcome_same rules s t d u (document_content rules t d)

-- ---- rounds

kept_one : (rules : SiteRules) (s t : SiteSources) (d : SiteDocument) (b : Bool) → (b ≡ false → IsUntouched rules s t d) → cond b (site_page_outcome rules t d) (site_page_outcome rules s d) ≡ site_page_outcome rules t d
kept_one rules s t d true h = refl
kept_one rules s t d false h = untouched_page rules s t d (h refl)

kept_all : (rules : SiteRules) (s t : SiteSources) (touched : SiteDocument → Bool) → ((d : SiteDocument) → touched d ≡ false → IsUntouched rules s t d)
    → (ds : List SiteDocument) → kept_outcomes touched (site_page_outcome rules t) (site_page_outcome rules s) ds ≡ map (outcome_by (site_page_outcome rules t)) ds
kept_all rules s t touched h [] = refl
kept_all rules s t touched h (d ∷ ds) = λ i.
    outcome_by (λ e. kept_one rules s t d (touched d) (h d) i) d ∷ kept_all rules s t touched h ds i

pub kept_is_built : KeptIsBuilt
kept_is_built rules s t touched h = kept_all rules s t touched h t.pages
