-- A text without newlines, cut at the first place of one of them.
use Rattle.std.proofs.Common.{◌≡◌, ℕ, zero, suc, ◌<◌, Bool, true, false, not, ◌==◌, ◌||◌, List, [], ◌∷◌, ◌++◌, length, take, refl, sym, ap, ap₂, subst, ◌∙◌, arith, append_assoc, take_all, get_or, if◌then◌else◌}
use Rattle.std.specs.Prelude.{⊤}
use Rattle.std.proofs.lemmas.Bool.Decides.{nat_tests}
use Rattle.std.proofs.lemmas.List.Elements.{filter-append}
use Rattle.std.proofs.lemmas.List.Sums.{split_at_first, fails_before_first, passes_at_first}
use Rattle.std.proofs.lemmas.Str.{chars-append, chars_past_char, encode_ascii, encodes-append, encodes-chars, IsUtf8-append, IsUtf8-from_ascii}
use Rattle.std.proofs.lemmas.Str.Ascii.{IsAscii-cons, IsAscii-nil}
use Rattle.std.specs.Char.{encode_utf8}
use Rattle.std.specs.List.{filter, position_or_len, before_first, after_first}
use Rattle.std.specs.Str.{chars, encode_utf8_all, IsUtf8}
use Rattle.liquid_filters.specs.Strip.{is_newline}

abbrev AllNot : ℕ → List ℕ → Type 0
AllNot c [] = ⊤
AllNot c (b ∷ s) = ((b == c) ≡ false) × AllNot c s

first_part : (c : ℕ) (s t : List ℕ) → AllNot c (s ++ t) → AllNot c s
first_part c [] t h = tt
first_part c (b ∷ s) t h = (h.0, first_part c s t h.1)

last_part : (c : ℕ) (s t : List ℕ) → AllNot c (s ++ t) → AllNot c t
last_part c [] t h = h
last_part c (b ∷ s) t h = last_part c s t h.1

none_before : (c : ℕ) (s : List ℕ) (n : ℕ) → ((k : ℕ) → k < n → (get_or s k 0 == c) ≡ false) → AllNot c (take n s)
none_before c s zero h = tt
none_before c [] (suc n) h = tt
none_before c (b ∷ s) (suc n) h = (h 0 (omega arith), none_before c s n (λ k l. h (suc k) (omega arith)))

-- an ASCII character whose byte isn't in a character's encoding is another one
another : (c d : ℕ) → c < 128 → AllNot c (encode_utf8 d) → (t : Bool) → (d == c) ≡ t → t ≡ false
another c d l h true e =
    let same : d ≡ c = grind (arith, nat_tests) in
    let one : AllNot c (c ∷ []) = subst (AllNot c) (ap encode_utf8 same ∙ encode_ascii c l) h in
    sym (subst (λ b. (b == c) ≡ true) same e) ∙ one.0
another c d l h false e = refl

-- tests that agree but for an ASCII character keep the same characters of a text without it
module _ (q r : ℕ → Bool) (c : ℕ) (l : c < 128) (agree : (d : ℕ) → (d == c) ≡ false → q d ≡ r d) where
  kept_same : (cs : List ℕ) → AllNot c (encode_utf8_all cs) → filter q cs ≡ filter r cs
  kept_same [] h = refl
  kept_same (d ∷ cs) h =
      let other : (d == c) ≡ false = another c d l (first_part c (encode_utf8 d) (encode_utf8_all cs) h) (d == c) refl in
      ap₂ (λ t xs. if t then d ∷ xs else xs) (agree d other) (kept_same cs (last_part c (encode_utf8 d) (encode_utf8_all cs) h))

  text_same : (s : List ℕ) → IsUtf8 s → AllNot c s → encode_utf8_all (filter q (chars s)) ≡ encode_utf8_all (filter r (chars s))
  text_same s u h = ap encode_utf8_all (kept_same (chars s) (subst (AllNot c) (sym (encodes-chars s u)) h))

  -- where the character goes, a text is what stands before its first place and what follows it
  module _ (gone : (d : ℕ) → (d == c) ≡ true → q d ≡ false) where
    parts : (before after : List ℕ) (b : ℕ) → b ≡ c → (b == c) ≡ true → IsUtf8 before → IsUtf8 after
        → encode_utf8_all (filter q (chars (before ++ b ∷ after))) ≡ encode_utf8_all (filter q (chars before)) ++ encode_utf8_all (filter q (chars after))
    parts before after b is test u v =
        let small : b < 128 = omega (arith, l, is) in
        let own : IsUtf8 (b ∷ after) = IsUtf8-append (b ∷ []) after (IsUtf8-from_ascii (b ∷ []) (IsAscii-cons b [] small IsAscii-nil)) v in
        let read : chars (before ++ b ∷ after) ≡ chars before ++ b ∷ chars after =
        chars-append before (b ∷ after) u ∙ ap (λ cs. chars before ++ cs) (chars_past_char (b ∷ after) after b own (ap (λ e. e ++ after) (sym (encode_ascii b small)))) in
        ap (λ cs. encode_utf8_all (filter q cs)) read
        ∙ ap encode_utf8_all (filter-append q (chars before) (b ∷ chars after) ∙ ap (λ t. filter q (chars before) ++ (if t then b ∷ filter q (chars after) else filter q (chars after))) (gone b test))
        ∙ encodes-append (filter q (chars before)) (filter q (chars after))

    abbrev is : ℕ → Bool
    is b = b == c

    pub piece_turn : (s before after out mid whole : List ℕ) → IsUtf8 before → IsUtf8 after → before ≡ before_first is s → after ≡ after_first is s → position_or_len is s < length s
        → mid ≡ out ++ encode_utf8_all (filter r (chars before)) → whole ≡ out ++ encode_utf8_all (filter q (chars s)) → whole ≡ mid ++ encode_utf8_all (filter q (chars after))
    piece_turn s before after out mid whole u v b a some m inv =
        let x = get_or s (position_or_len is s) 0 in
        let test : (x == c) ≡ true = passes_at_first is s 0 some in
        let cut : s ≡ before ++ x ∷ after = split_at_first is s 0 some ∙ ap₂ (λ y z. y ++ x ∷ z) (sym b) (sym a) in
        let none : AllNot c before = subst (AllNot c) (sym b) (none_before c s (position_or_len is s) (λ k i. fails_before_first is s k 0 i)) in
        inv ∙ ap (λ t. out ++ encode_utf8_all (filter q (chars t))) cut
        ∙ ap (λ t. out ++ t) (parts before after x (grind (arith, nat_tests)) test u v ∙ ap (λ t. t ++ encode_utf8_all (filter q (chars after))) (text_same before u none))
        ∙ sym (append_assoc out (encode_utf8_all (filter r (chars before))) (encode_utf8_all (filter q (chars after)))) ∙ ap (λ t. t ++ encode_utf8_all (filter q (chars after))) (sym m)

  pub piece_end : (s out mid whole : List ℕ) → IsUtf8 s → position_or_len (λ b. b == c) s ≡ length s → mid ≡ out ++ encode_utf8_all (filter r (chars s)) → whole ≡ out ++ encode_utf8_all (filter q (chars s)) → mid ≡ whole
  piece_end s out mid whole u e m inv =
      let all : take (length s) s ≡ s = take_all (length s) s (omega arith) in
      let none : AllNot c s = subst (AllNot c) all (none_before c s (length s) (λ k i. fails_before_first (λ b. b == c) s k 0 (omega arith))) in
      m ∙ ap (λ t. out ++ t) (sym (text_same s u none)) ∙ sym inv

-- ---- LFs, of a text whose CRs go with them, and then CRs
pub agree_lf : (d : ℕ) → (d == 10) ≡ false → not (is_newline d) ≡ not (d == 13)
agree_lf d e = ap (λ t. not (t || d == 13)) e

pub gone_lf : (d : ℕ) → (d == 10) ≡ true → not (is_newline d) ≡ false
gone_lf d e = ap (λ t. not (t || d == 13)) e

pub agree_cr : (d : ℕ) → (d == 13) ≡ false → not (d == 13) ≡ true
agree_cr d e = ap not e

pub gone_cr : (d : ℕ) → (d == 13) ≡ true → not (d == 13) ≡ false
gone_cr d e = ap not e

all_kept : (cs : List ℕ) → filter (λ d. true) cs ≡ cs
all_kept [] = refl
all_kept (d ∷ cs) = ap (λ xs. d ∷ xs) (all_kept cs)

-- a text of which all is kept
pub whole_kept : (s : List ℕ) → IsUtf8 s → encode_utf8_all (filter (λ d. true) (chars s)) ≡ s
whole_kept s u = ap encode_utf8_all (all_kept (chars s)) ∙ encodes-chars s u
