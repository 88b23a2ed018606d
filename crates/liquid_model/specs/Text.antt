-- Filters that make a text of the input's text, and what their answers are.
use Rattle.std.specs.Prelude.{◌≡◌, ℕ, Bool, true, false, ◌&&◌, ◌==◌, List, [], ◌∷◌, Ok}
use Rattle.liquid_model.specs.Data.{Datum, text, text_of}
use Rattle.liquid_model.specs.Texts.{Text}
use Rattle.liquid_model.specs.Arguments.{Answer}

-- the answer of a filter that makes f of the input's text, and takes no arguments
abbrev pub of_text : (List ℕ → List ℕ) → Datum → List Datum → Answer
of_text f d args = Ok (text (f (text_of d)))

-- the answer is f of something of which R holds
abbrev pub Makes : {X : Type 0} → (X → Answer) → (X → Type 0) → Answer → Type 0
Makes {X} f R a = (x : X) × (a ≡ f x) × R x

-- the answer is a text of which R holds
abbrev pub Texts : (Text → Type 0) → Answer → Type 0
Texts = Makes (λ t. Ok (text t))

-- the text begins with p
abbrev pub begins : Text → Text → Bool
begins [] s = true
begins (x ∷ p) [] = false
begins (x ∷ p) (y ∷ s) = x == y && begins p s
