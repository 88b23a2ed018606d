-- Breaks of lines, over characters.
use Rattle.std.proofs.Common.{◌≡◌, ℕ, ◌≤◌, false, ◌==◌, [], ◌∷◌, ◌++◌, codes, refl, ap, sym, ◌∙◌, arith, if◌then◌else◌}
use Rattle.std.proofs.lemmas.Bool.Decides.{nat_tests}
use Rattle.std.proofs.lemmas.Str.{encode_ascii}
use Rattle.std.specs.List.{flat_map}
use lib.Utf8.{encode}
use Rattle.liquid_filters.specs.LineBreaks.{broken_byte, broken_letter}
use Rattle.liquid_filters.proofs.Bytes.{ascii_or_high, high_letter, ascii_letter}

high_byte : (b : ℕ) → 128 ≤ b → broken_byte b ≡ b ∷ []
high_byte b h = let e : b == 10 ≡ false = grind (arith, nat_tests) in rw e refl

high_broken : (c : ℕ) → 128 ≤ c → broken_letter c ≡ encode c
high_broken c h = let e : c == 10 ≡ false = grind (arith, nat_tests) in rw e refl

pub letter_of : (c : ℕ) → flat_map broken_byte (encode c) ≡ broken_letter c
letter_of c = ascii_or_high c
    (λ l. ascii_letter broken_byte c l ∙ ap (λ t. if c == 10 then codes "<br />" ++ (10 ∷ []) else t) (sym (encode_ascii c l)))
    (λ l. high_letter broken_byte high_byte c l ∙ sym (high_broken c l))
