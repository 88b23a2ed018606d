-- The bound in the recursion of a chain is none of the answer.
use Rattle.std.proofs.Common.{◌≡◌, ℕ, zero, suc, ◌+◌, ◌<◌, ◌≤◌, Bool, true, false, cond, List, [], ◌∷◌, length, Option, Some, None, Result, Err, refl, sym, ap, ◌∙◌, arith}
use Rattle.std.specs.Map.{remove_entry}
use Rattle.liquid_model.specs.Maps.{listed}
use Rattle.liquid_model.specs.Texts.{Text, same_text}
use Rattle.liquid_language.specs.Entries.{without}
use Rattle.liquid_site_build.specs.Chains.{ChainFault, chained, layout_named, chain_from, layout_chain, chain_fault_at, within_layout, WithoutFuel}
use Rattle.liquid_site_build.specs.Sources.{SiteText, SiteTexts}

shorter_by : (p : Text × SiteText) (ps : SiteTexts) (name : Text) (l : SiteText) → (listed ps name ≡ Some l → suc (length (without name ps)) ≤ length ps) → (b : Bool)
    → cond b (Some p.1) (listed ps name) ≡ Some l → suc (length (cond b ps (p ∷ without name ps))) ≤ suc (length ps)
shorter_by p ps name l more true h = omega arith
shorter_by p ps name l more false h = let less = more h in omega (arith, less)

-- where a name is listed, fewer are left without it
shorter : (left : SiteTexts) (name : Text) (l : SiteText) → listed left name ≡ Some l → suc (length (without name left)) ≤ length left
unfolding listed
shorter [] name l h = absurd cc
shorter (p ∷ ps) name l h = shorter_by p ps name l (shorter ps name l) (same_text p.0 name) h

abbrev Next : Type 0
Next = Option Text → Result (List SiteText) ChainFault

chained_same : (f g : Next) (fault : ChainFault) (o : Option SiteText) → ((l : SiteText) → o ≡ Some l → (named : Option Text) → f named ≡ g named) → chained f fault o ≡ chained g fault o
chained_same f g fault None h = refl
chained_same f g fault (Some l) h = ap (within_layout l) (h l refl (layout_named l.front))

none_left : (next : Next) (fault : ChainFault) (left : SiteTexts) (name : Text) → length left ≤ 0 → Err fault ≡ chained next fault (listed left name)
unfolding listed
none_left next fault [] name h = refl
none_left next fault (p ∷ ps) name h = absurd (omega arith)

-- two bounds that are no less than what is left give the same
bound_free : (m n : ℕ) (all left : SiteTexts) → length left ≤ m → length left ≤ n → (named : Option Text) → chain_from m all left named ≡ chain_from n all left named
bound_free zero zero all left a b None = refl
bound_free zero zero all left a b (Some name) = refl
bound_free zero (suc n) all left a b None = refl
bound_free zero (suc n) all left a b (Some name) = none_left (chain_from n all (without name left)) (chain_fault_at all name) left name a
bound_free (suc m) zero all left a b None = refl
bound_free (suc m) zero all left a b (Some name) = sym (none_left (chain_from m all (without name left)) (chain_fault_at all name) left name b)
bound_free (suc m) (suc n) all left a b None = refl
bound_free (suc m) (suc n) all left a b (Some name) =
    chained_same (chain_from m all (without name left)) (chain_from n all (without name left)) (chain_fault_at all name) (listed left name)
    (λ l e named. let less = shorter left name l e in bound_free m n all (without name left) (omega (arith, less, a)) (omega (arith, less, b)) named)

pub without_fuel : WithoutFuel
without_fuel n layouts front h = bound_free n (length layouts) layouts layouts h (omega arith) (layout_named front)
