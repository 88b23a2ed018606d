-- The digits after the point, one by one.
use Rattle.std.proofs.Common.{◌≡◌, ℕ, zero, suc, ◌+◌, ◌^◌, ◌/◌, ◌%◌, ◌<◌, List, [], ◌∷◌, ◌++◌, ap, sym, ◌∙◌, append_assoc, append-nil, arith}
use Rattle.std.proofs.lemmas.Nat.{mod_below}
use Rattle.std.proofs.lemmas.Str.{encode_ascii}
use Rattle.std.specs.Char.{encode_utf8}
use Rattle.liquid_decimals.specs.Written.{fraction_text, last_digits}

pub fraction_turn : (out pushed all : List ℕ) (left rest n d : ℕ) → left ≡ suc rest → d ≡ 48 + n / 10 ^ rest % 10 → pushed ≡ out ++ encode_utf8 d → all ≡ out ++ last_digits left n → all ≡ pushed ++ last_digits rest n
fraction_turn out pushed all left rest n d e f p h =
    let low : n / 10 ^ rest % 10 < 10 = mod_below (n / 10 ^ rest) 10 (omega arith) in
    let ascii : d < 128 = omega (arith, f, low) in
    h ∙ ap (λ k. out ++ last_digits k n) e
    ∙ ap (λ c. out ++ (c ∷ last_digits rest n)) (sym f)
    ∙ sym (append_assoc out (d ∷ []) (last_digits rest n))
    ∙ ap (λ t. (out ++ t) ++ last_digits rest n) (sym (encode_ascii d ascii))
    ∙ ap (λ t. t ++ last_digits rest n) (sym p)

pub fraction_end : (old point start out : List ℕ) (places left n : ℕ) → 0 < places → left ≡ 0 → start ≡ old ++ point → start ++ last_digits places n ≡ out ++ last_digits left n → out ≡ old ++ fraction_text point places n
fraction_end old point start out zero left n h e s i = absurd (omega arith)
fraction_end old point start out (suc p) left n h e s i =
    sym (append-nil out) ∙ ap (λ k. out ++ last_digits k n) (sym e) ∙ sym i
    ∙ ap (λ t. t ++ last_digits (suc p) n) s ∙ append_assoc old point (last_digits (suc p) n)
