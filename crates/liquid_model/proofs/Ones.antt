-- Relations that hold of one thing alone.
use Rattle.std.proofs.Common.{◌≡◌, Bool, true, false, MatchBool, if◌then◌else◌, ap, refl, sym, subst, ◌∙◌}
use Rattle.liquid_model.specs.Answer.{IsTheOne}

pub one : {X : Type 0} (R : X → Type 0) (a : X) → R a → ((b : X) → R b → b ≡ a) → IsTheOne R a
one R a meets unique = λ b. (unique b, λ e. subst R (sym e) meets)

-- what f makes of the one thing
pub image_one : {X Y : Type 0} (R : X → Type 0) (f : X → Y) (x : X) → IsTheOne R x → IsTheOne (λ a. (y : X) × (a ≡ f y) × R y) (f x)
image_one {X} R f x h = one (λ a. (y : X) × (a ≡ f y) × R y) (f x) (x, refl, (h x).1 refl) (λ a m. m.1 ∙ ap f ((h m.0).0 m.2))

pub same_one : {X : Type 0} (x : X) → IsTheOne (λ a. a ≡ x) x
same_one x = λ a. (λ e. e, λ e. e)

pub either_one : {X : Type 0} (b : Bool) (R S : X → Type 0) (x y : X) → IsTheOne R x → IsTheOne S y → IsTheOne (λ a. MatchBool b (R a) (S a)) (if b then x else y)
either_one true R S x y h k = h
either_one false R S x y h k = k
