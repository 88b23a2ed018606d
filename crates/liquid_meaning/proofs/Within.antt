-- Lists of names that stand in a set.
use Rattle.std.specs.Prelude.{Bool, true, false, ◌||◌, T, List, [], ◌∷◌, ◌++◌}
use mathlib.Core.Path.{sym, subst}
use Rattle.liquid_model.specs.Texts.{Text, same_text}
use Rattle.liquid_model.proofs.Maps.{same_key}
use Rattle.liquid_meaning.specs.Within.{Within}
use Rattle.liquid_core.specs.Environment.{Names}
use Rattle.liquid_evaluation.specs.Names.{mentioned}

pub left : (N : Names) (xs ys : List Text) → Within N (xs ++ ys) → Within N xs
left N [] ys h = tt
left N (x ∷ xs) ys h = (h.0, left N xs ys h.1)

pub right : (N : Names) (xs ys : List Text) → Within N (xs ++ ys) → Within N ys
right N [] ys h = h
right N (x ∷ xs) ys h = right N xs ys h.1

pub within_more : (N M : Names) → ((x : Text) → T (N x) → T (M x)) → (xs : List Text) → Within N xs → Within M xs
within_more N M k [] h = tt
within_more N M k (x ∷ xs) h = (k x h.0, within_more N M k xs h.1)

pub text_ties_itself : (t : Text) → T (same_text t t)
text_ties_itself t = subst (λ b. T b) (sym (same_key t)) tt

pub or_left : (a b : Bool) → T a → T (a || b)
or_left true b h = tt
or_left false b h = absurd h

pub or_right : (a b : Bool) → T b → T (a || b)
or_right true b h = tt
or_right false b h = h

-- a name is mentioned where it stands in the list
pub within_mentioned : (xs : List Text) → Within (mentioned xs) xs
within_mentioned [] = tt
within_mentioned (x ∷ xs) = (or_left _ _ (text_ties_itself x), within_more _ _ (λ y h. or_right (same_text y x) _ h) xs (within_mentioned xs))
