-- Where a text has another in it.
use Rattle.std.proofs.Common.{◌≡◌, ℕ, List, [], ◌∷◌, ◌++◌, Bool, true, false, nat_eq, ◌||◌, length, drop, ◌↔◌, refl, sym, ap, ◌∙◌, Ok, Vec, Global}
use Rattle.std.specs.List.{starts_with, list_any}
use Rattle.std.specs.Str.Iter.{HasSubslice}
use Rattle.liquid_model.specs.Data.{Datum}
use Rattle.liquid_model.specs.Lists.{list_of}
use Rattle.liquid_model.specs.Order.{same}
use Rattle.liquid_model.specs.View.{view, items_view}
use Rattle.liquid_model.specs.declared.value.Value.{Value, Array}
use Rattle.liquid_model.proofs.Views.{view-Array}
use Rattle.std.proofs.lemmas.Bool.Decides.{Decides-eqb}
use Rattle.std.proofs.lemmas.Slice.Eq.{starts_is}
use Rattle.std.proofs.lemmas.Bool.{or_left, or_right}
use Rattle.liquid_model.specs.Texts.{Text}
use Rattle.liquid_core.specs.declared.missing_value.Missing.{Missing}
use Rattle.liquid_evaluation.specs.Evaluation.{contains, occurs_in}

begins : (n s : Text) → starts_with nat_eq s n ≡ true → HasSubslice s n
begins n s h = ([], drop (length n) s, (starts_is Decides-eqb s n _ refl).0 h)

one_further : (n s : Text) (c : ℕ) → HasSubslice s n → HasSubslice (c ∷ s) n
one_further n s c h = (c ∷ h.0, h.1, ap (λ l. c ∷ l) h.2)

either : (a b : Bool) {X : Type 0} → (a || b) ≡ true → (a ≡ true → X) → (b ≡ true → X) → X
either true b h left right = left refl
either false b h left right = right h

found : (n s : Text) → occurs_in n s ≡ true → HasSubslice s n
found n [] h = begins n [] h
found n (c ∷ s) h = either _ _ h (begins n (c ∷ s)) (λ later. one_further n s c (found n s later))

at_front : (n s back : Text) → s ≡ n ++ back → occurs_in n s ≡ true
at_front n [] back e = (starts_is Decides-eqb [] n _ refl).1 back e
at_front n (c ∷ s) back e = or_left _ _ ((starts_is Decides-eqb (c ∷ s) n _ refl).1 back e)

stands : (n s front back : Text) → s ≡ front ++ (n ++ back) → occurs_in n s ≡ true
stands n s [] back e = at_front n s back e
stands n [] (x ∷ front) back e = cc
stands n (c ∷ s) (x ∷ front) back e = or_right _ _ (stands n s front back cc)

same_truth : (a b : Bool) → (a ≡ true → b ≡ true) → (b ≡ true → a ≡ true) → a ≡ b
same_truth true true f g = refl
same_truth true false f g = sym (f refl)
same_truth false true f g = g refl
same_truth false false f g = refl

-- what `contains` of texts answers
pub occurs : (r : Bool) (n s : Text) → (r ≡ true) ↔ HasSubslice s n → r ≡ occurs_in n s
occurs r n s h = same_truth r (occurs_in n s) (λ t. let w = h.0 t in stands n s w.0 w.1 w.2) (λ t. h.1 (found n s t))

-- ---- items

any_viewed : (test : Datum → Bool) (vs : List Value) → list_any (λ v. test (view v)) vs ≡ list_any test (list_of (items_view vs))
any_viewed test [] = refl
any_viewed test (v ∷ vs) = ap (λ b. test (view v) || b) (any_viewed test vs)

-- what `contains` of a list answers
pub item_held : (missing : Missing) (r : Bool) (left right : Value) (items : Vec Value Global) (vs : List Value) → left ≡ Array items → vs ≡ items.items → r ≡ list_any (λ v. same (view v) (view right)) vs
    → contains missing (view left) (view right) ≡ Ok r
item_held missing r left right items vs is same_items held =
    ap (λ v. contains missing (view v) (view right)) is
    ∙ ap (λ d. contains missing d (view right)) (view-Array items)
    ∙ ap Ok (sym (held ∙ ap (λ l. list_any (λ v. same (view v) (view right)) l) same_items ∙ any_viewed (λ d. same d (view right)) items.items))
