-- The properties that filters are given by their names.
use Rattle.std.proofs.Common.{◌≡◌, ℕ, suc, ◌+◌, ◌<◌, Bool, false, cond, List, ◌∷◌, Option, Some, None, length, drop, get_or, map, codes, Bor, refl, sym, ap, ◌∙◌, add-one, drop-cons}
use Rattle.std.specs.Prelude.{MatchOption}
use mathlib.Core.Path.{subst}
use Rattle.liquid_core.specs.Expression.{Expression, literal}
use Rattle.liquid_core.specs.ExpressionView.{expression_view}
use Rattle.liquid_core.specs.declared.expression.Expression.{Expression as Step}
use Rattle.liquid_model.specs.Data.{text}
use Rattle.liquid_model.specs.Texts.{Text, same_text}
use Rattle.liquid_model.specs.Uses.{Use, everything}
use Rattle.liquid_meaning.specs.FilterNeeds.{by_property, literal_first_argument}
use Rattle.liquid_uses.specs.inside.Chains.{IsPropertyName, NamesProperty}

pub match_more : {X : Type 0} (P Q : X → Type 0) → ((x : X) → P x → Q x) → (o : Option X) → MatchOption o (Unit {0}) P → MatchOption o (Unit {0}) Q
match_more P Q k None m = m
match_more P Q k (Some x) m = k x m

named_first : (x : Expression) (xs : List Expression) (name : Text) → IsPropertyName x name → NamesProperty (x ∷ xs) name
named_first x xs name is f =
    subst (λ y. by_property (literal_first_argument (y ∷ xs)) f ≡ f name) (sym is.0) (ap (λ b. cond b everything (f name)) is.1)

pub names_first : (xs : List Step) (x : Step) → x ≡ get_or xs 0 x → 0 < length xs → (name : Text) → IsPropertyName (expression_view x) name → NamesProperty (map expression_view xs) name
names_first xs x is lt name named =
    let e : xs ≡ x ∷ drop 1 xs = drop-cons xs 0 x lt ∙ ap (λ y. y ∷ drop 1 xs) (sym is) in
    subst (λ ys. NamesProperty (map expression_view ys) name) (sym e) (named_first (expression_view x) (map expression_view (drop 1 xs)) name named)
