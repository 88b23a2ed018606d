-- Tokens after one another.
use Rattle.std.specs.Prelude.{◌≡◌, List, [], ◌∷◌, ◌++◌, codes}
use Rattle.std.proofs.lemmas.List.{append_assoc}
use mathlib.Core.Path.{ap, ◌∙◌}
use Rattle.json.specs.Token.{Token}
use Rattle.liquid_json.specs.Schemas.{entry_tokens}

-- a token, two lists, and a token
pub around : (a b c d e : List Token) (s t : Token) → b ≡ a ++ s ∷ [] → (m n : List Token) → c ≡ b ++ m → d ≡ c ++ n → e ≡ d ++ t ∷ [] → e ≡ a ++ (s ∷ (m ++ (n ++ t ∷ [])))
around a b c d e s t p m n q r u =
    u ∙ ap (λ x. x ++ t ∷ []) (r ∙ ap (λ x. x ++ n) (q ∙ ap (λ x. x ++ m) p))
    ∙ append_assoc ((a ++ s ∷ []) ++ m) n (t ∷ [])
    ∙ append_assoc (a ++ s ∷ []) m (n ++ t ∷ [])
    ∙ append_assoc a (s ∷ []) (m ++ (n ++ t ∷ []))

-- a start and what follows it
pub after_start : (a b c s m : List Token) → b ≡ a ++ s → c ≡ b ++ m → c ≡ a ++ (s ++ m)
after_start a b c s m p q = q ∙ ap (λ x. x ++ m) p ∙ append_assoc a s m

-- a token, three lists, and a token, from nothing
pub document : (a b c d e f m : List Token) → a ≡ [] → b ≡ a ++ Token.begin_object ∷ [] → c ≡ b ++ entry_tokens (codes "$schema") (codes "https://json-schema.org/draft/2020-12/schema")
    → d ≡ c ++ entry_tokens (codes "type") (codes "object") → e ≡ d ++ m → f ≡ e ++ Token.end_object ∷ []
    → f ≡ Token.begin_object ∷ (entry_tokens (codes "$schema") (codes "https://json-schema.org/draft/2020-12/schema") ++ (entry_tokens (codes "type") (codes "object") ++ (m ++ Token.end_object ∷ [])))
document a b c d e f m p q r s t u =
    u ∙ ap (λ x. x ++ Token.end_object ∷ []) (t ∙ ap (λ x. x ++ m) (s ∙ ap (λ x. x ++ entry_tokens (codes "type") (codes "object")) (r ∙ ap (λ x. x ++ entry_tokens (codes "$schema") (codes "https://json-schema.org/draft/2020-12/schema")) (q ∙ ap (λ x. x ++ Token.begin_object ∷ []) p))))
