-- Texts as slugs, character by character.
use Rattle.std.proofs.Common.{◌≡◌, ℕ, suc, ◌<◌, ◌==◌, ◌&&◌, Bool, true, false, not, List, [], ◌∷◌, ◌++◌, length, map, ap, refl, sym, ◌∙◌, append_assoc, append-nil, length-append, arith}
use Rattle.std.proofs.lemmas.Str.{chars_past_char, chars-encodes, chars-nil, encodes-append, encodes-chars, IsUtf8-past_char, scalars-chars}
use Rattle.std.specs.Char.{encode_utf8, to_ascii_lowercase}
use Rattle.std.specs.Str.{all_scalars, chars, encode_utf8_all, IsUtf8, trim}
use Rattle.std.proofs.lemmas.Bool.{and_parts}
use lib.Utf8.{scalar}
use Rattle.liquid_filters.proofs.Ends.{chars_last}
use Rattle.liquid_filters.specs.Slugs.{hyphened, without_outer, keeps, slug_character, slug, without_first, without_last}
use Rattle.liquid_filters.specs.declared.jekyll.slugify.Mode.{Mode}
use Rattle.liquid_filters.proofs.Hyphens.{ends_before, first_stays, last_stays, without_end}

-- ---- runs
hyphened_past : (keeps : ℕ → Bool) (after : Bool) (s rest : List ℕ) (c : ℕ) → IsUtf8 s → s ≡ encode_utf8 c ++ rest
    → encode_utf8_all (hyphened keeps after (chars s)) ≡ encode_utf8_all (slug_character (keeps c) after c) ++ encode_utf8_all (hyphened keeps (not (keeps c)) (chars rest))
hyphened_past keeps after s rest c u e =
    ap (λ cs. encode_utf8_all (hyphened keeps after cs)) (chars_past_char s rest c u e) ∙ encodes-append (slug_character (keeps c) after c) (hyphened keeps (not (keeps c)) (chars rest))

-- one turn of the loop over the characters
pub hyphened_turn : (keeps : ℕ → Bool) (after k : Bool) (s rest out next all : List ℕ) (c : ℕ) → s ≡ encode_utf8 c ++ rest → k ≡ keeps c
    → next ≡ out ++ encode_utf8_all (slug_character k after c)
    → IsUtf8 s × (all ≡ out ++ encode_utf8_all (hyphened keeps after (chars s)))
    → IsUtf8 rest × (all ≡ next ++ encode_utf8_all (hyphened keeps (not k) (chars rest)))
hyphened_turn keeps after k s rest out next all c e q g h = (
  IsUtf8-past_char s rest c h.0 e,
  h.1 ∙ ap (λ t. out ++ t) (hyphened_past keeps after s rest c h.0 e)
      ∙ ap (λ b. out ++ (encode_utf8_all (slug_character b after c) ++ encode_utf8_all (hyphened keeps (not b) (chars rest)))) (sym q)
      ∙ sym (append_assoc out (encode_utf8_all (slug_character k after c)) (encode_utf8_all (hyphened keeps (not k) (chars rest))))
      ∙ ap (λ t. t ++ encode_utf8_all (hyphened keeps (not k) (chars rest))) (sym g),
)

pub hyphened_end : (keeps : ℕ → Bool) (after : Bool) (s out all : List ℕ) → length s ≡ 0 → all ≡ out ++ encode_utf8_all (hyphened keeps after (chars s)) → out ≡ all
hyphened_end keeps after [] out all z h = sym (append-nil out) ∙ ap (λ cs. out ++ encode_utf8_all (hyphened keeps after cs)) (sym chars-nil) ∙ sym h
hyphened_end keeps after (b ∷ s) out all z h = absurd (omega arith)

-- ---- a hyphen at the start
pub first_past : (s rest : List ℕ) (c : ℕ) → IsUtf8 s → s ≡ encode_utf8 c ++ rest → c ≡ 45 → (without_first (chars s) ≡ without_first (chars rest)) × (length rest < length s)
unfolding encode_utf8
first_past s rest c u e h =
    let n : length s ≡ suc (length rest) = ap length (e ∙ ap (λ d. encode_utf8 d ++ rest) h) in
    (ap without_first (chars_past_char s rest c u e) ∙ ap (λ d. without_first (d ∷ chars rest)) h, omega (arith, n))

pub first_other : (s rest : List ℕ) (c : ℕ) → IsUtf8 s → s ≡ encode_utf8 c ++ rest → (c == 45) ≡ false → without_first (chars s) ≡ chars s
first_other s rest c u e h =
    let p = chars_past_char s rest c u e in
    ap without_first p ∙ first_stays (c ∷ chars rest) h ∙ sym p

pub first_none : (s : List ℕ) → length s ≡ 0 → without_first (chars s) ≡ chars s
first_none [] z = ap without_first chars-nil ∙ sym chars-nil
first_none (b ∷ s) z = absurd (omega arith)

-- ---- a hyphen at the end
pub last_before : (s t : List ℕ) (c : ℕ) → IsUtf8 s → IsUtf8 t → s ≡ t ++ encode_utf8 c → c ≡ 45 → (without_last (chars s) ≡ without_last (chars t)) × (length t < length s)
unfolding encode_utf8
last_before s t c u v e h =
    let n : length s ≡ length (t ++ encode_utf8 45) = ap length (e ∙ ap (λ d. t ++ encode_utf8 d) h) in
    let one : length (encode_utf8 45) ≡ 1 = refl in (
      ap without_last (chars_last s t c u v e) ∙ ap (λ d. without_last (chars t ++ d ∷ [])) h ∙ without_end (chars t),
      omega (arith, n, one, length-append t (encode_utf8 45)),
    )

pub last_other : (s t : List ℕ) (c : ℕ) → IsUtf8 s → IsUtf8 t → s ≡ t ++ encode_utf8 c → (c == 45) ≡ false → without_last (chars s) ≡ chars s
last_other s t c u v e h =
    let p = chars_last s t c u v e in
    ap without_last p ∙ last_stays (chars t ++ c ∷ []) (ends_before (chars t) c h) ∙ sym p

pub last_none : (s : List ℕ) → length s ≡ 0 → without_last (chars s) ≡ chars s
last_none [] z = ap without_last chars-nil ∙ sym chars-nil
last_none (b ∷ s) z = absurd (omega arith)

-- ---- the whole slug
shown_scalars : (b after : Bool) (c : ℕ) (cs : List ℕ) → scalar c ≡ true → all_scalars cs ≡ true → all_scalars (slug_character b after c ++ cs) ≡ true
shown_scalars true after c cs h k = ap (λ b. b && all_scalars cs) h ∙ k
shown_scalars false true c cs h k = k
shown_scalars false false c cs h k = k

hyphened_scalars : (keeps : ℕ → Bool) (after : Bool) (cs : List ℕ) → all_scalars cs ≡ true → all_scalars (hyphened keeps after cs) ≡ true
hyphened_scalars keeps after [] h = refl
hyphened_scalars keeps after (c ∷ cs) h =
    let p = and_parts (scalar c) (all_scalars cs) h in
    shown_scalars (keeps c) after c (hyphened keeps (not (keeps c)) cs) p.0 (hyphened_scalars keeps (not (keeps c)) cs p.1)

pub slug_is : (mode : Mode) (s trimmed all cut out : List ℕ) → IsUtf8 trimmed → trimmed ≡ trim s → all ≡ encode_utf8_all (hyphened (keeps mode) false (chars trimmed))
    → IsUtf8 cut → chars cut ≡ without_outer (chars all) → out ≡ map to_ascii_lowercase cut → out ≡ slug mode s
slug_is mode s trimmed all cut out u t a v c o =
    let letters : chars all ≡ hyphened (keeps mode) false (chars trimmed) =
    ap chars a ∙ chars-encodes (hyphened (keeps mode) false (chars trimmed)) (hyphened_scalars (keeps mode) false (chars trimmed) (scalars-chars trimmed u)) in
    o ∙ ap (map to_ascii_lowercase)
    (sym (encodes-chars cut v) ∙ ap encode_utf8_all (c ∙ ap without_outer letters) ∙ ap (λ l. encode_utf8_all (without_outer (hyphened (keeps mode) false (chars l)))) t)
