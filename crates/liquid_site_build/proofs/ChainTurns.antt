-- A chain of layouts, turn by turn.
use Rattle.std.proofs.Common.{◌≡◌, ℕ, zero, suc, Bool, true, false, cond, List, [], ◌∷◌, ◌++◌, Option, Some, None, Result, Ok, Err, refl, sym, ap, ◌∙◌}
use Rattle.liquid_core.specs.Environment.{Names}
use Rattle.liquid_language.specs.Entries.{without}
use Rattle.liquid_model.specs.Maps.{listed}
use Rattle.liquid_model.specs.Texts.{Text}
use Rattle.liquid_site_build.specs.Chains.{ChainFault, LayoutChain, chain_fault_at, chain_from, chained, layout_named, within_layout}
use Rattle.liquid_site_build.specs.Sources.{SiteText, SiteTexts}
use Rattle.liquid_site_build.proofs.Left.{AreLeft}

-- these layouts, and then those of a chain
abbrev pub in_front : List SiteText → LayoutChain → LayoutChain
in_front [] r = r
in_front (l ∷ ls) r = within_layout l (in_front ls r)

in_front_last : (ls : List SiteText) (l : SiteText) (r : LayoutChain) → in_front (ls ++ l ∷ []) r ≡ in_front ls (within_layout l r)
in_front_last [] l r = refl
in_front_last (m ∷ ls) l r = ap (within_layout m) (in_front_last ls l r)

in_front_end : (ls : List SiteText) → in_front ls (Ok []) ≡ Ok ls
in_front_end [] = refl
in_front_end (l ∷ ls) = ap (within_layout l) (in_front_end ls)

in_front_fault : (ls : List SiteText) (why : ChainFault) → in_front ls (Err why) ≡ Err why
in_front_fault [] why = refl
in_front_fault (l ∷ ls) why = ap (within_layout l) (in_front_fault ls why)

none_named : (n : ℕ) (all left : SiteTexts) → chain_from n all left None ≡ Ok []
none_named zero all left = refl
none_named (suc n) all left = refl

pub chain_done : (n : ℕ) (all left : SiteTexts) (ls : List SiteText) → in_front ls (chain_from n all left None) ≡ Ok ls
chain_done n all left ls = ap (in_front ls) (none_named n all left) ∙ in_front_end ls

none_left : (n : ℕ) (all left : SiteTexts) (name : Text) → listed left name ≡ None → chain_from n all left (Some name) ≡ Err (chain_fault_at all name)
none_left zero all left name h = refl
none_left (suc n) all left name h = ap (chained (chain_from n all (without name left)) (chain_fault_at all name)) h

-- a layout that was passed, or that isn't there
pub chain_broken : (n : ℕ) (all left : SiteTexts) (passed : Names) (ls : List SiteText) (name : Text) → AreLeft passed all left → cond (passed name) None (listed all name) ≡ None
    → in_front ls (chain_from n all left (Some name)) ≡ Err (chain_fault_at all name)
chain_broken n all left passed ls name h none = ap (in_front ls) (none_left n all left name (h.1 name ∙ none)) ∙ in_front_fault ls (chain_fault_at all name)

-- one that is there
pub chain_turn : (n : ℕ) (all left : SiteTexts) (passed : Names) (ls : List SiteText) (name : Text) (l : SiteText) → AreLeft passed all left → passed name ≡ false → listed all name ≡ Some l
    → in_front (ls ++ l ∷ []) (chain_from n all (without name left) (layout_named l.front)) ≡ in_front ls (chain_from (suc n) all left (Some name))
chain_turn n all left passed ls name l h new found =
    let there : listed left name ≡ Some l = h.1 name ∙ ap (λ b. cond b None (listed all name)) new ∙ found in
    in_front_last ls l (chain_from n all (without name left) (layout_named l.front))
    ∙ ap (in_front ls) (sym (ap (chained (chain_from n all (without name left)) (chain_fault_at all name)) there))

-- no turn is left
pub chain_spent : (all left : SiteTexts) (ls : List SiteText) (name : Text) → in_front ls (chain_from zero all left (Some name)) ≡ Err (chain_fault_at all name)
chain_spent all left ls name = in_front_fault ls (chain_fault_at all name)
