-- Texts written one after another with a separator between them, a turn at a time.
use Rattle.std.proofs.Common.{◌≡◌, ℕ, List, [], ◌∷◌, ◌++◌, ◌+◌, drop, map, refl, sym, ap, ◌∙◌, append_assoc}
use Rattle.std.specs.List.{flat_map, join_by}
use Rattle.liquid_model.specs.Texts.{Text}

-- the values that are left in their written form, the first one with this before it
abbrev pub joined_from : {X : Type 0} → Text → (X → Text) → Text → List X → Text
joined_from front written separator [] = []
joined_from front written separator (x ∷ xs) = front ++ (written x ++ flat_map (λ y. separator ++ written y) xs)

pub from_nothing : {X : Type 0} (written : X → Text) (separator : Text) (xs : List X) → joined_from [] written separator xs ≡ join_by written separator xs
from_nothing written separator [] = refl
from_nothing written separator (x ∷ xs) = refl

from_separator : {X : Type 0} (written : X → Text) (separator : Text) (xs : List X) → joined_from separator written separator xs ≡ flat_map (λ y. separator ++ written y) xs
from_separator written separator [] = refl
from_separator written separator (x ∷ xs) = sym (append_assoc separator (written x) _)

-- after one more text the separator comes before the next
pub one_text_more : {A B : Type 0} (view : A → B) (written : B → Text) (separator front done whole : Text) (xs : List A) (i : ℕ) (x : A) → drop i xs ≡ x ∷ drop (i + 1) xs
    → done ++ joined_from front written separator (map view (drop i xs)) ≡ whole
    → ((done ++ front) ++ written (view x)) ++ joined_from separator written separator (map view (drop (i + 1) xs)) ≡ whole
one_text_more view written separator front done whole xs i x next h =
    ap (λ rest. ((done ++ front) ++ written (view x)) ++ rest) (from_separator written separator (map view (drop (i + 1) xs)))
    ∙ append_assoc (done ++ front) (written (view x)) _
    ∙ append_assoc done front _
    ∙ ap (λ l. done ++ joined_from front written separator (map view l)) (sym next)
    ∙ h
