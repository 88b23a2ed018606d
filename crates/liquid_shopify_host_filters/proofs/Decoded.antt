-- Bytes that are a text, or none.
use Rattle.std.proofs.Common.{◌≡◌, Bool, true, false, List, ℕ, Ok, Err, ap, refl, sym, ◌∙◌, if◌then◌else◌}
use Rattle.std.specs.Str.{IsUtf8, is_utf8}
use Rattle.std.proofs.lemmas.Str.{IsUtf8-from_is_utf8, is_utf8-from_IsUtf8}
use Rattle.liquid_model.specs.Data.{text}
use Rattle.liquid_model.specs.declared.error.ErrorKind.TheVariants.{InvalidInput}
use Rattle.liquid_model.specs.Arguments.{Answer}
use Rattle.liquid_shopify_host_filters.specs.Codecs.{decoded_text}

pub is_decoded : (bytes made : List ℕ) → IsUtf8 bytes → made ≡ bytes → decoded_text bytes ≡ Ok (text made)
is_decoded bytes made u e =
    let answer : Bool → Answer = λ t. if t then Ok (text bytes) else Err InvalidInput in
    ap answer (is_utf8-from_IsUtf8 bytes u) ∙ ap (λ t. Ok (text t)) (sym e)

not_test : (bytes : List ℕ) (t : Bool) → is_utf8 bytes ≡ t → (IsUtf8 bytes → ⊥)
    → (let answer : Answer = if t then Ok (text bytes) else Err InvalidInput in answer) ≡ Err InvalidInput
not_test bytes true e h = absurd (h (IsUtf8-from_is_utf8 bytes e))
not_test bytes false e h = refl

pub not_decoded : (bytes : List ℕ) → (IsUtf8 bytes → ⊥) → decoded_text bytes ≡ Err InvalidInput
not_decoded bytes h = not_test bytes (is_utf8 bytes) refl h
