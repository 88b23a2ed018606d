-- Rounds, one after another.
use Rattle.std.proofs.Common.{◌≡◌, ◌<◌, ◌≤◌, ◌+◌, false, MatchBool, List, [], ◌∷◌, ◌++◌, length, refl, sym, subst, ap, ◌∙◌, length-append, arith}
use Rattle.std.proofs.lemmas.List.{map-append}
use Rattle.std.specs.Prelude.{⊤}
use Rattle.liquid_model.specs.ErrorKinds.{is_memory}
use Rattle.liquid_model.specs.Texts.{Text}
use Rattle.liquid_evaluation.specs.Tree.{Nodes}
use Rattle.liquid_language.specs.declared.registry.Language.{Language}
use Rattle.liquid_parser.specs.Parsing.{HasNoTree, IsOfSource, IsOnlyTree}
use Rattle.liquid_check.specs.Blanks.{blanked}
use Rattle.liquid_check.specs.Rounds.{Found, IsRound, AreRounds, IsSilentAboutTemplates}
use Rattle.liquid_check.specs.Views.{finding_view, findings_view}
use Rattle.liquid_check.specs.inside.First.{IsFirstIndependent}
use Rattle.liquid_check.specs.declared.findings.Finding.{Finding}

-- one round more
pub rounds_on : (l : Language) (s now next : Text) (fs : List Found) (f : Found) → AreRounds l s fs now → IsRound l now f next → AreRounds l s (fs ++ f ∷ []) next
rounds_on l s now next [] f e r = (next, subst (λ t. IsRound l t f next) e r, refl)
rounds_on l s now next (g ∷ fs) f a r = (a.0, a.1, rounds_on l a.0 now next fs f a.2 r)

-- the first stays the first
pub first_on : (fs : List Found) (f : Found) → IsFirstIndependent fs → (fs ≡ [] → f.follows ≡ false) → IsFirstIndependent (fs ++ f ∷ [])
first_on [] f independent first = first refl
first_on (g ∷ fs) f independent first = independent

-- the source is a template after the last round
pub silent_at_end : (l : Language) (s last : Text) (fs : List Found) (tree : Nodes) → AreRounds l s fs last → IsFirstIndependent fs → IsOnlyTree l tree last → IsSilentAboutTemplates l s fs
silent_at_end l s last [] tree e independent only = (tree, subst (λ t. IsOnlyTree l tree t) e only)
silent_at_end l s last (f ∷ fs) tree a independent only = (a.1.refused, independent)

-- ---- the same of findings

pub rounds_more : (l : Language) (s now next : Text) (fs gs : List Finding) (f : Finding) → gs ≡ fs ++ f ∷ [] → AreRounds l s (findings_view fs) now → IsRound l now (finding_view f) next → AreRounds l s (findings_view gs) next
rounds_more l s now next fs gs f e a r =
    subst (λ vs. AreRounds l s vs next) (sym (ap findings_view e ∙ map-append finding_view fs (f ∷ []))) (rounds_on l s now next (findings_view fs) (finding_view f) a r)

pub first_more : (fs gs : List Finding) (f : Finding) → gs ≡ fs ++ f ∷ [] → IsFirstIndependent (findings_view fs) → (fs ≡ [] → f.follows ≡ false) → IsFirstIndependent (findings_view gs)
first_more [] gs f e independent first = subst (λ g. IsFirstIndependent (findings_view g)) (sym e) (first refl)
first_more (x ∷ fs) gs f e independent first = subst (λ g. IsFirstIndependent (findings_view g)) (sym e) independent

pub few_more : (fs gs : List Finding) (f : Finding) → gs ≡ fs ++ f ∷ [] → length fs < 100 → length gs ≤ 100
few_more fs gs f e h = let n : length gs ≡ length fs + 1 = ap length e ∙ length-append fs (f ∷ []) in omega (arith, n, h)

-- a round: the fault of the source as it is, and the blanks
pub round_of : (l : Language) (now seen cut front piece after next : Text) (f : Found) → seen ≡ now → cut ≡ now → is_memory f.kind ≡ false
    → MatchBool (is_memory f.kind) ⊤ (HasNoTree l seen) → MatchBool (is_memory f.kind) ⊤ (IsOfSource f.kind)
    → f.start ≡ length front → f.count ≡ length piece → cut ≡ front ++ (piece ++ after) → next ≡ front ++ (blanked piece ++ after) → IsRound l now f next
round_of l now seen cut front piece after next f at here other none kind start count old new = record {
  refused = subst (HasNoTree l) at (subst (λ b. MatchBool b ⊤ (HasNoTree l seen)) other none);
  of_source = subst (λ b. MatchBool b ⊤ (IsOfSource f.kind)) other kind;
  blanks = record { front = front; piece = piece; after = after; start_is = sym start; count_is = sym count; old_is = sym here ∙ old; new_is = new };
}
