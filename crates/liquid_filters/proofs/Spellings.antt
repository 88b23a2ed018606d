-- Texts by their characters: each filter's text stands in its relation, and no other does.
use Rattle.std.proofs.Common.{◌≡◌, ◌≢◌, ℕ, suc, ◌+◌, ◌/◌, ◌%◌, ◌<◌, ◌≤◌, ◌⊎◌, inl, inr, Bool, true, false, cond, not, ◌&&◌, ◌||◌, ◌==◌, ltb, List, [], ◌∷◌, ◌++◌, length, map, ap, subst, refl, sym, ◌∙◌, arith, append-nil, if◌then◌else◌}
use Rattle.std.proofs.lemmas.Bool.Decides.{nat_tests}
use Rattle.std.proofs.lemmas.List.{map-append}
use Rattle.std.proofs.lemmas.Str.{chars-encodes, encode_ascii, encodes-chars, scalars-chars}
use Rattle.std.proofs.lemmas.Str.Ascii.{lowercase_ascii, uppercase_ascii}
use Rattle.std.specs.Char.{is_whitespace, to_ascii_lowercase, to_ascii_uppercase}
use Rattle.std.specs.List.{filter}
use Rattle.std.specs.Str.{all_scalars, chars, drop_trailing_whitespace, encode_utf8_all, IsUtf8, skip_leading_whitespace, trim, trim_end, trim_start}
use Rattle.std.proofs.Math.Bool.{and-false}
use lib.Utf8.{encode, scalar}
use Rattle.liquid_model.specs.Answer.{IsTheOne}
use Rattle.liquid_filters.specs.Case.{capitalized, upper_first}
use Rattle.liquid_filters.specs.TextSpelling.{AreWhite, Capitalizes, EndsPlain, KeepsLines, MapsCharacters, Spell, StartsPlain, StripsEnd, StripsEnds, StripsNewlines, StripsStart}
use Rattle.liquid_filters.specs.Strip.{is_newline, without_newlines}
use Rattle.liquid_filters.proofs.Characters.{capitalized_past}

-- the characters that spell a text are its characters
spelled : (cs s : List ℕ) → Spell cs s → chars s ≡ cs
spelled cs s h = ap chars h.1 ∙ chars-encodes cs h.0

own_spelling : (s : List ℕ) → IsUtf8 s → Spell (chars s) s
own_spelling s u = (scalars-chars s u, sym (encodes-chars s u))

spelled_as : (s cs : List ℕ) → IsUtf8 s → chars s ≡ cs → Spell cs s
spelled_as s cs u e = subst (λ ds. Spell ds s) e (own_spelling s u)

-- ---- a map that leaves what is not ASCII
module _ (f : ℕ → ℕ) (high : (b : ℕ) → 128 ≤ b → f b ≡ b) (low : (b : ℕ) → b < 128 → f b < 128) where
  two : (x y : ℕ) → 128 ≤ x → 128 ≤ y → map f (x ∷ y ∷ []) ≡ x ∷ y ∷ []
  two x y p q = rw (high x p, high y q) refl

  three : (x y z : ℕ) → 128 ≤ x → 128 ≤ y → 128 ≤ z → map f (x ∷ y ∷ z ∷ []) ≡ x ∷ y ∷ z ∷ []
  three x y z p q r = rw (high x p, high y q, high z r) refl

  four : (x y z w : ℕ) → 128 ≤ x → 128 ≤ y → 128 ≤ z → 128 ≤ w → map f (x ∷ y ∷ z ∷ w ∷ []) ≡ x ∷ y ∷ z ∷ w ∷ []
  four x y z w p q r t = rw (high x p, high y q, high z r, high w t) refl

  by_width : (c : ℕ) (s t : Bool) → map f (cond s ((192 + c / 64) ∷ (128 + c % 64) ∷ []) (cond t ((224 + c / 4096) ∷ (128 + c / 64 % 64) ∷ (128 + c % 64) ∷ []) ((240 + c / 262144) ∷ (128 + c / 4096 % 64) ∷ (128 + c / 64 % 64) ∷ (128 + c % 64) ∷ [])))
      ≡ cond s ((192 + c / 64) ∷ (128 + c % 64) ∷ []) (cond t ((224 + c / 4096) ∷ (128 + c / 64 % 64) ∷ (128 + c % 64) ∷ []) ((240 + c / 262144) ∷ (128 + c / 4096 % 64) ∷ (128 + c / 64 % 64) ∷ (128 + c % 64) ∷ []))
  by_width c true t = two (192 + c / 64) (128 + c % 64) (omega arith) (omega arith)
  by_width c false true = three (224 + c / 4096) (128 + c / 64 % 64) (128 + c % 64) (omega arith) (omega arith) (omega arith)
  by_width c false false = four (240 + c / 262144) (128 + c / 4096 % 64) (128 + c / 64 % 64) (128 + c % 64) (omega arith) (omega arith) (omega arith) (omega arith)

  wide_at : (c : ℕ) (t : Bool) → ltb c 128 ≡ t → 128 ≤ c → map f (encode c) ≡ encode c
  unfolding encode
  wide_at c true e l = absurd (grind (arith, nat_tests))
  wide_at c false e l = rw e (by_width c (ltb c 2048) (ltb c 65536))

  one_character : (c : ℕ) (t : Bool) → ltb c 128 ≡ t → map f (encode c) ≡ encode (f c)
  one_character c true e =
      let l : c < 128 = grind (arith, nat_tests) in
      ap (map f) (encode_ascii c l) ∙ sym (encode_ascii (f c) (low c l))
  one_character c false e =
      let l : 128 ≤ c = grind (arith, nat_tests) in
      wide_at c (ltb c 128) refl l ∙ ap encode (sym (high c l))

  map-encodes : (cs : List ℕ) → map f (encode_utf8_all cs) ≡ encode_utf8_all (map f cs)
  map-encodes [] = refl
  map-encodes (c ∷ cs) = map-append f (encode c) (encode_utf8_all cs) ∙ ap (λ t. t ++ map f (encode_utf8_all cs)) (one_character c (ltb c 128) refl) ∙ ap (λ t. encode (f c) ++ t) (map-encodes cs)

  pub mapped_one : (s : List ℕ) → IsUtf8 s → IsTheOne (MapsCharacters f s) (map f s)
  mapped_one s u = λ t. (
    (λ h. h.2 ∙ sym (map-encodes h.0) ∙ ap (map f) (sym h.1.1)),
    λ e. (chars s, own_spelling s u, e ∙ ap (map f) (sym (encodes-chars s u)) ∙ map-encodes (chars s)),
  )

lower_high : (b : ℕ) → 128 ≤ b → to_ascii_lowercase b ≡ b
lower_high b h = grind (arith, nat_tests)

upper_high : (b : ℕ) → 128 ≤ b → to_ascii_uppercase b ≡ b
upper_high b h = grind (arith, nat_tests)

pub downcased_one : (s : List ℕ) → IsUtf8 s → IsTheOne (MapsCharacters to_ascii_lowercase s) (map to_ascii_lowercase s)
downcased_one = mapped_one to_ascii_lowercase lower_high lowercase_ascii

pub upcased_one : (s : List ℕ) → IsUtf8 s → IsTheOne (MapsCharacters to_ascii_uppercase s) (map to_ascii_uppercase s)
upcased_one = mapped_one to_ascii_uppercase upper_high uppercase_ascii

-- ---- the first character
capitalized_unique : (s t : List ℕ) → IsUtf8 s → Capitalizes s t → t ≡ capitalized s
capitalized_unique s t u (inl h) = h.1 ∙ ap (λ cs. encode_utf8_all (upper_first cs)) (sym (ap chars h.0 ∙ chars-encodes [] refl))
capitalized_unique s t u (inr h) = h.3 ∙ capitalized_past s h.1 h.0 u h.2

capitalized_stands : (s t cs : List ℕ) → s ≡ encode_utf8_all cs → t ≡ encode_utf8_all (upper_first cs) → Capitalizes s t
capitalized_stands s t [] e g = inl (e, g)
capitalized_stands s t (c ∷ cs) e g = inr (c, encode_utf8_all cs, e, g)

pub capitalized_one : (s : List ℕ) → IsUtf8 s → IsTheOne (Capitalizes s) (capitalized s)
capitalized_one s u = λ t. (capitalized_unique s t u, capitalized_stands s t (chars s) (sym (encodes-chars s u)))

-- ---- white space at the start
skip_white : (ws cs : List ℕ) → AreWhite ws → skip_leading_whitespace (ws ++ cs) ≡ skip_leading_whitespace cs
skip_white [] cs a = refl
skip_white (w ∷ ws) cs a = ap (λ t. cond t (skip_leading_whitespace (ws ++ cs)) (w ∷ (ws ++ cs))) a.0 ∙ skip_white ws cs a.1

skip_plain : (cs : List ℕ) → StartsPlain cs → skip_leading_whitespace cs ≡ cs
skip_plain [] p = refl
skip_plain (c ∷ cs) p = ap (λ t. cond t (skip_leading_whitespace cs) (c ∷ cs)) p

abbrev Skipped : List ℕ → List ℕ → Type 0
Skipped cs kept = (white : List ℕ) × (cs ≡ white ++ kept) × AreWhite white × StartsPlain kept

skip_either : (c : ℕ) (cs : List ℕ) (t : Bool) → is_whitespace c ≡ t → Skipped cs (skip_leading_whitespace cs) → Skipped (c ∷ cs) (cond t (skip_leading_whitespace cs) (c ∷ cs))
skip_either c cs true e h = (c ∷ h.0, ap (λ t. c ∷ t) h.1, (e, h.2), h.3)
skip_either c cs false e h = ([], refl, tt, e)

skip_stands : (cs : List ℕ) → Skipped cs (skip_leading_whitespace cs)
skip_stands [] = ([], refl, tt, tt)
skip_stands (c ∷ cs) = skip_either c cs (is_whitespace c) refl (skip_stands cs)

strips_start_unique : (s t : List ℕ) → StripsStart s t → t ≡ trim_start s
unfolding trim_start
strips_start_unique s t h =
    h.5 ∙ ap encode_utf8_all (sym (skip_plain h.1 h.4) ∙ sym (skip_white h.0 h.1 h.3) ∙ ap skip_leading_whitespace (sym (spelled (h.0 ++ h.1) s h.2)))

strips_start_stands : (s t : List ℕ) → IsUtf8 s → t ≡ trim_start s → StripsStart s t
unfolding trim_start
strips_start_stands s t u e =
    let h = skip_stands (chars s) in
    (h.0, skip_leading_whitespace (chars s), spelled_as s (h.0 ++ skip_leading_whitespace (chars s)) u h.1, h.2, h.3, e)

pub strips_start_one : (s : List ℕ) → IsUtf8 s → IsTheOne (StripsStart s) (trim_start s)
strips_start_one s u = λ t. (strips_start_unique s t, strips_start_stands s t u)

-- ---- white space at the end
drop_all_white : (ws : List ℕ) → AreWhite ws → drop_trailing_whitespace ws ≡ []
drop_all_white [] a = refl
drop_all_white (w ∷ ws) a =
    ap (λ t. cond (is_whitespace w && length t == 0) [] (w ∷ t)) (drop_all_white ws a.1) ∙ ap (λ t. cond (t && true) [] (w ∷ [])) a.0

drop_white : (cs ws : List ℕ) → AreWhite ws → drop_trailing_whitespace (cs ++ ws) ≡ drop_trailing_whitespace cs
drop_white [] ws a = drop_all_white ws a
drop_white (c ∷ cs) ws a = ap (λ t. cond (is_whitespace c && length t == 0) [] (c ∷ t)) (drop_white cs ws a)

not_zero : (n : ℕ) → (suc n == 0) ≡ false
not_zero n = grind (arith, nat_tests)

drop_plain : (cs : List ℕ) → EndsPlain cs → drop_trailing_whitespace cs ≡ cs
drop_plain [] p = refl
drop_plain (c ∷ []) p = ap (λ t. cond (t && true) [] (c ∷ [])) p
drop_plain (c ∷ (d ∷ cs)) p =
    ap (λ t. cond (is_whitespace c && length t == 0) [] (c ∷ t)) (drop_plain (d ∷ cs) p)
    ∙ ap (λ t. cond (is_whitespace c && t) [] (c ∷ (d ∷ cs))) (not_zero (length cs)) ∙ ap (λ t. cond t [] (c ∷ (d ∷ cs))) (and-false (is_whitespace c))

abbrev Dropped : List ℕ → List ℕ → Type 0
Dropped cs kept = (white : List ℕ) × (cs ≡ kept ++ white) × AreWhite white × EndsPlain kept

drop_either : (c : ℕ) (cs kept : List ℕ) (t : Bool) → is_whitespace c ≡ t → Dropped cs kept → Dropped (c ∷ cs) (cond (t && length kept == 0) [] (c ∷ kept))
drop_either c cs [] true e h = (c ∷ h.0, ap (λ t. c ∷ t) h.1, (e, h.2), tt)
drop_either c cs [] false e h = (h.0, ap (λ t. c ∷ t) h.1, h.2, e)
drop_either c cs (d ∷ kept) true e h =
    subst (λ t. Dropped (c ∷ cs) (cond t [] (c ∷ (d ∷ kept)))) (sym (not_zero (length kept))) (h.0, ap (λ t. c ∷ t) h.1, h.2, h.3)
drop_either c cs (d ∷ kept) false e h = (h.0, ap (λ t. c ∷ t) h.1, h.2, h.3)

drop_stands : (cs : List ℕ) → Dropped cs (drop_trailing_whitespace cs)
drop_stands [] = ([], refl, tt, tt)
drop_stands (c ∷ cs) = drop_either c cs (drop_trailing_whitespace cs) (is_whitespace c) refl (drop_stands cs)

strips_end_unique : (s t : List ℕ) → StripsEnd s t → t ≡ trim_end s
unfolding trim_end
strips_end_unique s t h =
    h.5 ∙ ap encode_utf8_all (sym (drop_plain h.0 h.4) ∙ sym (drop_white h.0 h.1 h.3) ∙ ap drop_trailing_whitespace (sym (spelled (h.0 ++ h.1) s h.2)))

strips_end_stands : (s t : List ℕ) → IsUtf8 s → t ≡ trim_end s → StripsEnd s t
unfolding trim_end
strips_end_stands s t u e =
    let h = drop_stands (chars s) in
    (drop_trailing_whitespace (chars s), h.0, spelled_as s (drop_trailing_whitespace (chars s) ++ h.0) u h.1, h.2, h.3, e)

pub strips_end_one : (s : List ℕ) → IsUtf8 s → IsTheOne (StripsEnd s) (trim_end s)
strips_end_one s u = λ t. (strips_end_unique s t, strips_end_stands s t u)

-- ---- white space at both ends
and_second : (a b : Bool) → (a && b) ≡ true → b ≡ true
and_second true b h = h
and_second false b h = let u : ⊥ = cc in absurd u

scalars_after : (ws cs : List ℕ) → all_scalars (ws ++ cs) ≡ true → all_scalars cs ≡ true
scalars_after [] cs h = h
scalars_after (w ∷ ws) cs h = scalars_after ws cs (and_second (scalar w) (all_scalars (ws ++ cs)) h)

trim_is : (s : List ℕ) → IsUtf8 s → trim s ≡ encode_utf8_all (drop_trailing_whitespace (skip_leading_whitespace (chars s)))
unfolding trim_start trim_end
trim_is s u =
    let h = skip_stands (chars s) in
    let kept = skip_leading_whitespace (chars s) in
    let characters : all_scalars (h.0 ++ kept) ≡ true = subst (λ cs. all_scalars cs ≡ true) h.1 (scalars-chars s u) in
    ap (λ cs. encode_utf8_all (drop_trailing_whitespace cs)) (chars-encodes kept (scalars_after h.0 kept characters))

skip_all_white : (ws : List ℕ) → AreWhite ws → skip_leading_whitespace ws ≡ []
skip_all_white ws a = ap skip_leading_whitespace (sym (append-nil ws)) ∙ skip_white ws [] a

both_plain : (kept after : List ℕ) → AreWhite after → StartsPlain kept → EndsPlain kept → drop_trailing_whitespace (skip_leading_whitespace (kept ++ after)) ≡ kept
both_plain [] after a p q = ap drop_trailing_whitespace (skip_all_white after a)
both_plain (c ∷ cs) after a p q = ap drop_trailing_whitespace (skip_plain (c ∷ (cs ++ after)) p) ∙ drop_white (c ∷ cs) after a ∙ drop_plain (c ∷ cs) q

starts_front : (kept after : List ℕ) → StartsPlain (kept ++ after) → StartsPlain kept
starts_front [] after p = tt
starts_front (c ∷ cs) after p = p

strips_ends_unique : (s t : List ℕ) → IsUtf8 s → StripsEnds s t → t ≡ trim s
strips_ends_unique s t u h =
    let before = h.0 in
    let kept = h.1 in
    let after = h.2 in
    h.8 ∙ ap encode_utf8_all
    (sym (both_plain kept after h.5 h.6 h.7) ∙ ap drop_trailing_whitespace (sym (skip_white before (kept ++ after) h.4)) ∙ ap (λ cs. drop_trailing_whitespace (skip_leading_whitespace cs)) (sym (spelled (before ++ (kept ++ after)) s h.3)))
    ∙ sym (trim_is s u)

strips_ends_stands : (s t : List ℕ) → IsUtf8 s → t ≡ trim s → StripsEnds s t
strips_ends_stands s t u e =
    let first = skip_stands (chars s) in
    let left = skip_leading_whitespace (chars s) in
    let last = drop_stands left in
    let kept = drop_trailing_whitespace left in (
      first.0,
      kept,
      last.0,
      spelled_as s (first.0 ++ (kept ++ last.0)) u (first.1 ∙ ap (λ cs. first.0 ++ cs) last.1),
      first.2,
      last.2,
      starts_front kept last.0 (subst StartsPlain last.1 first.3),
      last.3,
      e ∙ trim_is s u,
    )

pub strips_ends_one : (s : List ℕ) → IsUtf8 s → IsTheOne (StripsEnds s) (trim s)
strips_ends_one s u = λ t. (strips_ends_unique s t u, strips_ends_stands s t u)

-- ---- newlines
abbrev kept_of : List ℕ → List ℕ
kept_of cs = filter (λ c. not (is_newline c)) cs

newline_known : (c : ℕ) → (c ≡ 10) ⊎ (c ≡ 13) → is_newline c ≡ true
newline_known c (inl e) = ap is_newline e
newline_known c (inr e) = ap is_newline e

other_known : (c : ℕ) → c ≢ 10 → c ≢ 13 → is_newline c ≡ false
other_known c a b =
    let x : (c == 10) ≡ false = grind (arith, nat_tests) in
    let y : (c == 13) ≡ false = grind (arith, nat_tests) in
    rw (x, y) refl

lines_unique : (cs ds : List ℕ) → KeepsLines cs ds → ds ≡ kept_of cs
lines_unique [] ds h = h
lines_unique (c ∷ cs) ds (inl h) = lines_unique cs ds h.1 ∙ ap (λ t. if not t then c ∷ kept_of cs else kept_of cs) (sym (newline_known c h.0))
lines_unique (c ∷ cs) ds (inr h) =
    h.3 ∙ ap (λ es. c ∷ es) (lines_unique cs h.2 h.4) ∙ ap (λ t. if not t then c ∷ kept_of cs else kept_of cs) (sym (other_known c h.0 h.1))

newline_from : (c : ℕ) (s t : Bool) → (c == 10) ≡ s → (c == 13) ≡ t → (s || t) ≡ true → (c ≡ 10) ⊎ (c ≡ 13)
newline_from c true t e f h = inl (grind (arith, nat_tests))
newline_from c false true e f h = inr (grind (arith, nat_tests))
newline_from c false false e f h = let u : ⊥ = cc in absurd u

not_ten : (c : ℕ) → is_newline c ≡ false → c ≢ 10
not_ten c h e = let u : true ≡ false = sym (ap is_newline e) ∙ h in let w : ⊥ = cc in w

not_thirteen : (c : ℕ) → is_newline c ≡ false → c ≢ 13
not_thirteen c h e = let u : true ≡ false = sym (ap is_newline e) ∙ h in let w : ⊥ = cc in w

lines_either : (c : ℕ) (cs : List ℕ) (t : Bool) → is_newline c ≡ t → KeepsLines cs (kept_of cs) → KeepsLines (c ∷ cs) (if not t then c ∷ kept_of cs else kept_of cs)
lines_either c cs true e h = inl (newline_from c (c == 10) (c == 13) refl refl e, h)
lines_either c cs false e h = inr (not_ten c e, not_thirteen c e, kept_of cs, refl, h)

lines_stand : (cs : List ℕ) → KeepsLines cs (kept_of cs)
lines_stand [] = refl
lines_stand (c ∷ cs) = lines_either c cs (is_newline c) refl (lines_stand cs)

strips_newlines_unique : (s t : List ℕ) → StripsNewlines s t → t ≡ without_newlines s
strips_newlines_unique s t h = h.4 ∙ ap encode_utf8_all (lines_unique h.0 h.1 h.3 ∙ ap kept_of (sym (spelled h.0 s h.2)))

pub strips_newlines_one : (s : List ℕ) → IsUtf8 s → IsTheOne (StripsNewlines s) (without_newlines s)
strips_newlines_one s u = λ t. (strips_newlines_unique s t, λ e. (chars s, kept_of (chars s), own_spelling s u, lines_stand (chars s), e))
