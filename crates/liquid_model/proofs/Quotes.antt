-- Quotations: how they are written, and that each is a short line.
use Rattle.std.proofs.Common.{◌≡◌, ℕ, zero, suc, ◌+◌, ◌-◌, ◌*◌, ◌/◌, ◌%◌, ◌<◌, ◌≤◌, ◌==◌, ◌&&◌, Bool, true, false, not, cond, nat_lt, nat_le, IsTrue, List, [], ◌∷◌, ◌++◌, length, take, Option, Some, None, IfSome, String, Global, string_bytes, refl, sym, ap, ap₂, ◌∙◌, subst, inl, inr, arith, length-append}
use Rattle.std.specs.Prelude.{codes, MatchBool, ⊤}
use Rattle.std.specs.Option.{option_map}
use Rattle.std.proofs.lemmas.Grind.{common_steps}
use Rattle.std.proofs.lemmas.List.{length-take}
use Rattle.std.specs.Char.{encode_utf8, is_control}
use Rattle.std.specs.Fmt.{digit_glyph, digits_onto, digits}
use Rattle.std.specs.Int.{is_in_range}
use Rattle.std.specs.List.{list_all}
use Rattle.std.specs.Str.{chars, encode_utf8_all, IsUtf8}
use Rattle.std.proofs.lemmas.Bool.{and_from, and_parts, and_right, cases_lt, cond_both, eq-eqb, false_from_ne_true, leb-true, le-leb, lt-ltb, le-ltb, ltb-true, not-true, ltb-false, ne_eqb, or_from, or_parts, or_right, true≢false}
use Rattle.std.proofs.lemmas.List.Folds.{list_all-append}
use Rattle.std.proofs.lemmas.Str.{chars_past_char, chars-nil, encodes-chars}
use lib.Utf8.{next}
use Rattle.liquid_model.specs.declared.error.ErrorKind.{ErrorKind}
use Rattle.liquid_model.specs.declared.error.Error.{Error}
use Rattle.liquid_model.specs.ErrorKinds.{is_memory, is_write}
use Rattle.liquid_model.specs.Errors.{HasMessageUnlessMemory}
use Rattle.liquid_model.specs.Quotes.{cost, hidden_escape, is_hidden, is_line, is_line_byte, is_unseen, is_message, most_bytes, quotation, quoted, character_shown, PlainTextsAreShownWhole, QuotationsAreLines}

-- ---- the loop over the characters

pub quoted_stop : (n k c : ℕ) (s rest : List ℕ) → IsUtf8 s → s ≡ encode_utf8 c ++ rest → k ≡ cost c → n < k → quoted n (chars s) ≡ codes "..."
quoted_stop n k c s rest u e q h =
    ap (quoted n) (chars_past_char s rest c u e)
    ∙ ap (λ b. cond b (codes "...") (character_shown c ++ quoted (n - cost c) (chars rest))) (lt-ltb n (cost c) (subst (λ x. n < x) q h))

pub quoted_turn : (n k c : ℕ) (s rest : List ℕ) → IsUtf8 s → s ≡ encode_utf8 c ++ rest → k ≡ cost c → k ≤ n → quoted n (chars s) ≡ character_shown c ++ quoted (n - k) (chars rest)
quoted_turn n k c s rest u e q h =
    ap (quoted n) (chars_past_char s rest c u e)
    ∙ ap (λ b. cond b (codes "...") (character_shown c ++ quoted (n - cost c) (chars rest))) (le-ltb n (cost c) (subst (λ x. x ≤ n) q h))
    ∙ ap (λ x. character_shown c ++ quoted (n - x) (chars rest)) (sym q)

pub quoted_end : (n : ℕ) (s : List ℕ) → length s ≡ 0 → quoted n (chars s) ≡ []
quoted_end n [] z = ap (quoted n) chars-nil
quoted_end n (b ∷ s) z = absurd (omega arith)

-- ---- a quotation is a short line

pub line_parts : (most : ℕ) (t : List ℕ) → is_line most t ≡ true → (length t ≤ most) × (list_all is_line_byte t ≡ true)
line_parts most t e = let p = and_parts _ _ e in (leb-true _ _ p.0, p.1)

pub line_from : (most : ℕ) (t : List ℕ) → length t ≤ most → list_all is_line_byte t ≡ true → is_line most t ≡ true
line_from most t short all = rw (le-leb (length t) most short) all

pub line_append : (m n : ℕ) (s t : List ℕ) → is_line m s ≡ true → is_line n t ≡ true → is_line (m + n) (s ++ t) ≡ true
line_append m n s t a b =
    let p = line_parts m s a in
    let q = line_parts n t b in
    line_from (m + n) (s ++ t) (omega (arith, length-append s t)) (list_all-append is_line_byte s t ∙ ap₂ (λ x y. x && y) p.1 q.1)

pub line_wider : (m n : ℕ) (t : List ℕ) → m ≤ n → is_line m t ≡ true → is_line n t ≡ true
line_wider m n t h e = let p = line_parts m t e in line_from n t (omega arith) p.1

line_byte : (b : ℕ) → 32 ≤ b → (b ≡ 127 → ⊥) → is_line_byte b ≡ true
line_byte b h k = rw (le-ltb b 32 h, ne_eqb b 127 k) refl

-- the digits of a number in hex, of which there are k at most
hex_glyph : (d : ℕ) → d < 16 → is_line_byte (digit_glyph false d) ≡ true
hex_glyph d h = elim (cases_lt d 10) [
  | inl low ↦ rw (lt-ltb d 10 low) (line_byte (48 + d) (omega arith) (λ e. omega arith))
  | inr high ↦ rw (le-ltb d 10 high) (line_byte (87 + d) (omega arith) (λ e. omega arith))
]

hex_by : (b : Bool) (xs ys : List ℕ) → list_all is_line_byte xs ≡ true → list_all is_line_byte ys ≡ true → list_all is_line_byte (cond b xs ys) ≡ true
hex_by true xs ys h k = h
hex_by false xs ys h k = k

hex_line : (k n : ℕ) (acc : List ℕ) → list_all is_line_byte acc ≡ true → list_all is_line_byte (digits_onto k 16 false n acc) ≡ true
hex_line zero n acc h = h
hex_line (suc k) n acc h =
    let more : list_all is_line_byte (digit_glyph false (n % 16) ∷ acc) ≡ true = and_from _ _ (hex_glyph (n % 16) (omega arith)) h in
    hex_by (n / 16 == 0) _ _ more (hex_line k (n / 16) (digit_glyph false (n % 16) ∷ acc) more)

short_by : (b : Bool) (m : ℕ) (xs ys : List ℕ) → length xs ≤ m → length ys ≤ m → length (cond b xs ys) ≤ m
short_by true m xs ys h k = h
short_by false m xs ys h k = k

hex_one : (k n : ℕ) (acc : List ℕ) → n < 16 → length (digits_onto (suc k) 16 false n acc) ≤ 1 + length acc
hex_one k n acc h = rw (eq-eqb (n / 16) 0 (omega arith)) (omega arith)

hex_more : (k n j : ℕ) (acc : List ℕ) → ((more : List ℕ) → length (digits_onto k 16 false (n / 16) more) ≤ j + length more) → length (digits_onto (suc k) 16 false n acc) ≤ suc j + length acc
hex_more k n j acc h = short_by (n / 16 == 0) (suc j + length acc) _ _ (omega arith) (omega (arith, h (digit_glyph false (n % 16) ∷ acc)))

hex_short : (n : ℕ) → n < 65536 → length (digits 16 false n) ≤ 4
unfolding digits
hex_short n h =
    hex_more 63 n 3 [] (λ a. hex_more 62 (n / 16) 2 a (λ b. hex_more 61 (n / 16 / 16) 1 b (λ c. hex_one 60 (n / 16 / 16 / 16) c (omega arith))))

hex_is_line : (n : ℕ) → n < 65536 → is_line 4 (digits 16 false n) ≡ true
unfolding digits
hex_is_line n h = line_from 4 (digits 16 false n) (hex_short n h) (hex_line 64 n [] refl)

-- ---- characters

past_range : (low high c : ℕ) → high < c → is_in_range low high c ≡ false
past_range low high c h = and_right (nat_le low c) (nat_le c high) (false_from_ne_true (nat_le c high) (λ e. omega (arith, leb-true c high e)))

other_than : (c k : ℕ) → k < c → (c == k) ≡ false
other_than c k h = ne_eqb c k (λ e. omega (arith, e))

-- a character that is hidden has a number of four digits in hex at most
hidden_below : (c : ℕ) → is_hidden c ≡ true → c < 65536
hidden_below c e = elim (cases_lt c 65536) [
  | inl low ↦ low
  | inr high ↦
      let control : is_control c ≡ false = or_from _ _ (past_range 0 0x1F c (omega arith)) (past_range 0x7F 0x9F c (omega arith)) in
      let unseen : is_unseen c ≡ false =
      or_from _ _ (or_from _ _ (or_from _ _ (or_from _ _ (or_from _ _ (or_from _ _ (or_from _ _ (other_than c 0xA0 (omega arith)) (other_than c 0xAD (omega arith)))
      (other_than c 0x61C (omega arith))) (past_range 0x2000 0x200F c (omega arith))) (past_range 0x2028 0x202F c (omega arith)))
      (past_range 0x205F 0x206F c (omega arith))) (other_than c 0x3000 (omega arith))) (other_than c 0xFEFF (omega arith)) in
      absurd (true≢false (sym e ∙ or_from (is_control c) (is_unseen c) control unseen))
]

escaped_is_line : (c : ℕ) → c < 65536 → is_line 32 (hidden_escape c) ≡ true
escaped_is_line c h =
    let number : is_line 32 (codes "\\u{" ++ (digits 16 false c ++ codes "}")) ≡ true =
    line_wider 8 32 (codes "\\u{" ++ (digits 16 false c ++ codes "}")) (omega arith) (line_append 3 5 (codes "\\u{") (digits 16 false c ++ codes "}") refl (line_append 4 1 (digits 16 false c) (codes "}") (hex_is_line c h) refl)) in
    cond_both (c == 10) _ _ (λ t. is_line 32 t ≡ true) (λ e. refl) (λ e.
    cond_both (c == 13) _ _ (λ t. is_line 32 t ≡ true) (λ e. refl) (λ e.
    cond_both (c == 9) _ _ (λ t. is_line 32 t ≡ true) (λ e. refl) (λ e. number)))

high_byte : (b : ℕ) → 128 ≤ b → is_line_byte b ≡ true
high_byte b h = line_byte b (omega arith) (λ e. omega (arith, e))

plain_byte : (c : ℕ) → is_hidden c ≡ false → c < 128 → is_line_byte c ≡ true
plain_byte c e h =
    let control : (is_in_range 0 0x1F c ≡ false) × (is_in_range 0x7F 0x9F c ≡ false) = or_parts (is_in_range 0 0x1F c) (is_in_range 0x7F 0x9F c) (or_parts (is_control c) (is_unseen c) e).0 in
    line_byte c
    (elim (cases_lt c 32) [ inl low ↦ absurd (true≢false (sym (and_from (nat_le 0 c) (nat_le c 0x1F) (le-leb 0 c (omega arith)) (le-leb c 0x1F (omega arith))) ∙ control.0)) | inr high ↦ high ])
    (λ same. true≢false (sym (and_from (nat_le 0x7F c) (nat_le c 0x9F) (le-leb 0x7F c (omega (arith, same))) (le-leb c 0x9F (omega (arith, same)))) ∙ control.1))

abbrev two : ℕ → List ℕ
two c = (192 + c / 64) ∷ next c ∷ []

abbrev three : ℕ → List ℕ
three c = (224 + c / 4096) ∷ next (c / 64) ∷ next c ∷ []

abbrev four : ℕ → List ℕ
four c = (240 + c / 262144) ∷ next (c / 4096) ∷ next (c / 64) ∷ next c ∷ []

high_then : (b : ℕ) (bs : List ℕ) → 128 ≤ b → list_all is_line_byte bs ≡ true → list_all is_line_byte (b ∷ bs) ≡ true
high_then b bs h k = and_from (is_line_byte b) (list_all is_line_byte bs) (high_byte b h) k

next_high : (c : ℕ) → 128 ≤ next c
next_high c = omega arith

two_is_line : (c : ℕ) → is_line 4 (two c) ≡ true
two_is_line c = line_from 4 (two c) (omega arith) (high_then (192 + c / 64) (next c ∷ []) (omega arith) (high_then (next c) [] (next_high c) refl))

three_is_line : (c : ℕ) → is_line 4 (three c) ≡ true
three_is_line c = line_from 4 (three c) (omega arith) (high_then (224 + c / 4096) (next (c / 64) ∷ next c ∷ []) (omega arith) (high_then (next (c / 64)) (next c ∷ []) (next_high (c / 64)) (high_then (next c) [] (next_high c) refl)))

four_is_line : (c : ℕ) → is_line 4 (four c) ≡ true
four_is_line c =
    line_from 4 (four c) (omega arith) (high_then (240 + c / 262144) (next (c / 4096) ∷ next (c / 64) ∷ next c ∷ []) (omega arith) (high_then (next (c / 4096)) (next (c / 64) ∷ next c ∷ []) (next_high (c / 4096)) (high_then (next (c / 64)) (next c ∷ []) (next_high (c / 64)) (high_then (next c) [] (next_high c) refl))))

plain_is_line : (c : ℕ) → is_hidden c ≡ false → is_line 4 (encode_utf8 c) ≡ true
unfolding encode_utf8
plain_is_line c e =
    cond_both (nat_lt c 128) (c ∷ []) (cond (nat_lt c 2048) (two c) (cond (nat_lt c 65536) (three c) (four c))) (λ t. is_line 4 t ≡ true)
    (λ low. line_from 4 (c ∷ []) (omega arith) (and_from (is_line_byte c) true (plain_byte c e (ltb-true c 128 low)) refl))
    (λ high. cond_both (nat_lt c 2048) (two c) (cond (nat_lt c 65536) (three c) (four c)) (λ t. is_line 4 t ≡ true)
    (λ low. two_is_line c)
    (λ higher. cond_both (nat_lt c 65536) (three c) (four c) (λ t. is_line 4 t ≡ true) (λ low. three_is_line c) (λ highest. four_is_line c)))

shown_is_line : (c : ℕ) → is_line (4 * cost c) (character_shown c) ≡ true
shown_is_line c = by (is_hidden c) refl
  where
    by : (b : Bool) → is_hidden c ≡ b → is_line (4 * cond b 8 1) (cond b (hidden_escape c) (encode_utf8 c)) ≡ true
    by true e = escaped_is_line c (hidden_below c e)
    by false e = plain_is_line c e

-- ---- quotations

quoted_is_line : (n : ℕ) (cs : List ℕ) → is_line (4 * n + 3) (quoted n cs) ≡ true
quoted_is_line n [] = line_from (4 * n + 3) [] (omega arith) refl
quoted_is_line n (c ∷ cs) =
    let more = quoted_is_line (n - cost c) cs in
    cond_both (nat_lt n (cost c)) _ _ (λ t. is_line (4 * n + 3) t ≡ true)
    (λ e. line_wider 3 (4 * n + 3) (codes "...") (omega arith) refl)
    (λ e.
    let enough : cost c ≤ n = ltb-false n (cost c) e in
    line_wider (4 * cost c + (4 * (n - cost c) + 3)) (4 * n + 3) _ (omega arith) (line_append (4 * cost c) (4 * (n - cost c) + 3) (character_shown c) _ (shown_is_line c) more))

-- a quotation is a line of 243 bytes at most
pub quotation_is_line : (t : List ℕ) → is_line 243 (quotation t) ≡ true
quotation_is_line t = quoted_is_line 60 (chars t)

pub quotations_are_lines : QuotationsAreLines
quotations_are_lines t = quotation_is_line t

-- characters that are no more than are shown, none of them hidden
quoted_whole : (n : ℕ) (cs : List ℕ) → length cs ≤ n → list_all (λ c. not (is_hidden c)) cs ≡ true → quoted n cs ≡ encode_utf8_all cs
quoted_whole n [] h e = refl
quoted_whole n (c ∷ cs) h e =
    let both = and_parts (not (is_hidden c)) (list_all (λ c. not (is_hidden c)) cs) e in
    let plain : is_hidden c ≡ false = not-true (is_hidden c) both.0 in
    let one : cost c ≡ 1 = ap (λ b. cond b 8 1) plain in
    let as_it_is : character_shown c ≡ encode_utf8 c = ap (λ b. cond b (hidden_escape c) (encode_utf8 c)) plain in
    let more : quoted (n - 1) cs ≡ encode_utf8_all cs = quoted_whole (n - 1) cs (omega arith) both.1 in
    ap (λ b. cond b (codes "...") (character_shown c ++ quoted (n - cost c) cs)) (le-ltb n (cost c) (omega arith))
    ∙ ap (λ k. character_shown c ++ quoted (n - k) cs) one
    ∙ ap₂ (λ (xs ys : List ℕ). xs ++ ys) as_it_is more

pub plain_texts_are_shown_whole : PlainTextsAreShownWhole
plain_texts_are_shown_whole t u h e = quoted_whole 60 (chars t) h e ∙ encodes-chars t u

-- a line is the message of a fault of any kind
pub line_is_message : (kind : ErrorKind) (t : List ℕ) → is_line most_bytes t ≡ true → IsTrue (is_message kind t)
line_is_message kind t e = or_right (is_write kind) (is_line most_bytes t) e

-- ---- the beginning of a text that is a line

front_passes : (p : ℕ → Bool) (n : ℕ) (xs : List ℕ) → list_all p xs ≡ true → list_all p (take n xs) ≡ true
front_passes p zero xs h = refl
front_passes p (suc n) [] h = refl
front_passes p (suc n) (x ∷ xs) h = let both = and_parts (p x) (list_all p xs) h in and_from (p x) _ both.0 (front_passes p n xs both.1)

pub line_front : (most m n : ℕ) (t : List ℕ) → m ≤ n → is_line most (take n t) ≡ true → is_line most (take m t) ≡ true
line_front most m n t h e =
    let p = line_parts most (take n t) e in
    let same : take m (take n t) ≡ take m t = grind (arith, common_steps) in
    let shorter : length (take m (take n t)) ≤ most = omega (arith, length-take m (take n t), p.0) in
    subst (λ s. is_line most s ≡ true) same (line_from most (take m (take n t)) shorter (front_passes is_line_byte m (take n t) p.1))

-- ---- a message that is written out

unless_memory : (b : Bool) {P : Type 0} → P → MatchBool b ⊤ P
unless_memory true p = tt
unless_memory false p = p

pub message_written : (o : Option (List ℕ)) (kind : ErrorKind) (w : String Global) (e : Error) → IfSome o (λ t. string_bytes w ≡ t)
    → (IsTrue (is_message kind (string_bytes w)) → e.message ≡ Some w) → IfSome o (λ t. IsTrue (is_message kind t) → HasMessageUnlessMemory t e)
message_written None kind w e is says = tt
message_written (Some t) kind w e is says = λ fits.
    unless_memory (is_memory e.kind) (ap (option_map string_bytes) (says (subst (λ s. IsTrue (is_message kind s)) (sym is) fits)) ∙ ap Some is)
