-- What is read as a word, a blank, a quoted text or a number stands in the grammar, and what stands in the grammar is read.
use Rattle.std.proofs.Common.{◌≡◌, ℕ, ℤ, zero, suc, ◌+◌, ◌<◌, ◌≤◌, List, [], ◌∷◌, ◌++◌, length, take, drop, get_or, eqb, Bool, true, false, ◌||◌, ◌&&◌, ◌⊎◌, inl, inr, cond, subst, sym, ap, ◌∙◌, arith, rules, refl, Option, Some, None, nat_lt}
use Rattle.std.specs.Option.{option_and_then, option_map}
use Rattle.std.specs.Str.{all_ascii_digits}
use Rattle.liquid_model.specs.Whole.{whole_text, is_whole_text}
use Rattle.liquid_model.specs.Bytes.{is_white, is_letter, is_digit, in_word, not_quote}
use Rattle.liquid_model.specs.Words.{passes, IsRun, Blank, Word, Quoted, Number, continues_number}
use Rattle.liquid_model.specs.Front.{run_len, past_white, past_byte, word_at, until_quote, quoted_at, integer_at, number_len, with_sign}
use Rattle.std.proofs.lemmas.List.{take-append-drop, length-append}
use Rattle.std.proofs.Math.Seq.{take-append_seam, drop-append_seam}
use Rattle.std.proofs.lemmas.Bool.{eqb-true, eq-eqb, and_parts, false_from_ne_true, ne_eqb, or_left, or_right}
use Rattle.std.proofs.lemmas.Bool.Decides.{nat_tests}
use Rattle.std.proofs.lemmas.Option.{cond_some}

-- ---- tools

pub bind_some : {A B : Type 0} (o : Option A) (f : A → Option B) (y : B) → option_and_then f o ≡ Some y → (x : A) × (o ≡ Some x) × (f x ≡ Some y)
bind_some None f y h = absurd cc
bind_some (Some x) f y h = (x, refl, h)

pub map_some : {A B : Type 0} (o : Option A) (f : A → B) (y : B) → option_map f o ≡ Some y → (x : A) × (o ≡ Some x) × (f x ≡ y)
map_some None f y h = absurd cc
map_some (Some x) f y h = (x, refl, cc)

pub from_some : {A : Type 0} {x y : A} → Some x ≡ Some y → x ≡ y
from_some h = cc

-- ---- runs

module _ (t : ℕ → List ℕ → Bool) where
  front_by : (b : ℕ) (bs : List ℕ) (n : ℕ) (c : Bool) → t b bs ≡ c → IsRun t (take n bs) (drop n bs) → IsRun t (take (cond c (suc n) 0) (b ∷ bs)) (drop (cond c (suc n) 0) (b ∷ bs))
  front_by b bs n true e h = (ap (t b) (take-append-drop n bs) ∙ e, h)
  front_by b bs n false e h = e

  pub run_front : (bs : List ℕ) → IsRun t (take (run_len t bs) bs) (drop (run_len t bs) bs)
  run_front [] = refl
  run_front (b ∷ bs) = front_by b bs (run_len t bs) (t b bs) refl (run_front bs)

  pub run_len_is : (w rest : List ℕ) → IsRun t w rest → run_len t (w ++ rest) ≡ length w
  run_len_is [] [] h = refl
  run_len_is [] (b ∷ bs) h = rw h
  run_len_is (b ∷ w) rest h = rw h.0 (ap suc (run_len_is w rest h.1))

stops_by : (t : ℕ → List ℕ → Bool) (b : ℕ) (bs : List ℕ) (c : Bool) → t b bs ≡ c → passes t (drop (run_len t bs) bs) ≡ false → passes t (drop (cond c (suc (run_len t bs)) 0) (b ∷ bs)) ≡ false
stops_by t b bs true e h = h
stops_by t b bs false e h = e

pub run_stops : (t : ℕ → List ℕ → Bool) (bs : List ℕ) → passes t (drop (run_len t bs) bs) ≡ false
run_stops t [] = refl
run_stops t (b ∷ bs) = stops_by t b bs (t b bs) refl (run_stops t bs)

-- ---- words and blanks

pub blank_takes : (bs : List ℕ) → Blank bs (past_white bs)
unfolding past_white
blank_takes bs = record { blank = take (run_len is_white bs) bs; joined = sym (take-append-drop (run_len is_white bs) bs); run = run_front is_white bs }

pub blank_again : (bs rest : List ℕ) → Blank bs rest → past_white bs ≡ rest
unfolding past_white
blank_again bs rest h = rw (h.joined, run_len_is is_white h.blank rest h.run, drop-append_seam)

pub word_takes : (bs : List ℕ) (x : List ℕ × List ℕ) → word_at bs ≡ Some x → Word x.0 bs x.1
unfolding word_at
word_takes bs x h = let g = cond_some (is_letter (get_or bs 0 0)) _ x h in
    subst (λ (x : List ℕ × List ℕ). Word x.0 bs x.1) g.1 (record { joined = sym (take-append-drop (run_len in_word bs) bs); begins = g.0; run = run_front in_word bs })

pub word_again : (w bs rest : List ℕ) → Word w bs rest → word_at bs ≡ Some (w, rest)
unfolding word_at
word_again w bs rest h = rw (h.begins, h.joined, run_len_is in_word w rest h.run, take-append_seam, drop-append_seam)

-- ---- texts in quotes

pub byte_some : (q : ℕ) (bs rest : List ℕ) → past_byte q bs ≡ Some rest → bs ≡ q ∷ rest
byte_some q [] rest h = absurd cc
byte_some q (c ∷ cs) rest h = let g = cond_some (eqb c q) cs rest h in grind (arith, nat_tests, g.0, g.1)

pub byte_again : (q : ℕ) (rest : List ℕ) → past_byte q (q ∷ rest) ≡ Some rest
byte_again q rest = ap (λ (b : Bool). cond b (Some rest) None) (eq-eqb q q refl)

pub guard_opt : {A : Type 0} (b : Bool) (o : Option A) (y : A) → cond b o None ≡ Some y → (b ≡ true) × (o ≡ Some y)
guard_opt true o y h = (refl, h)
guard_opt false o y h = absurd cc

pub either : (a b : Bool) → (a || b) ≡ true → (a ≡ true) ⊎ (b ≡ true)
either true b h = inl refl
either false b h = inr h

is_quote : (q : ℕ) → (eqb q 34 || eqb q 39) ≡ true → (q ≡ 34) ⊎ (q ≡ 39)
is_quote q h = elim (either (eqb q 34) (eqb q 39) h) [ inl e ↦ inl (eqb-true q 34 e) | inr e ↦ inr (eqb-true q 39 e) ]

quote_is : (q : ℕ) → (q ≡ 34) ⊎ (q ≡ 39) → (eqb q 34 || eqb q 39) ≡ true
quote_is q (inl e) = rw e
quote_is q (inr e) = rw e

until_takes : (q : ℕ) → (q ≡ 34) ⊎ (q ≡ 39) → (bs : List ℕ) (x : List ℕ × List ℕ) → until_quote q bs ≡ Some x → Quoted x.0 (q ∷ bs) x.1
unfolding until_quote
until_takes q k bs x h =
    let m = map_some (past_byte q (drop (run_len (not_quote q) bs) bs)) _ x h in
    let e : drop (run_len (not_quote q) bs) bs ≡ q ∷ m.0 = byte_some q _ m.0 m.1 in
    subst (λ (x : List ℕ × List ℕ). Quoted x.0 (q ∷ bs) x.1) m.2 (record {
      quote = q;
      double_or_single = k;
      joined = ap (λ (l : List ℕ). q ∷ l) (sym (take-append-drop (run_len (not_quote q) bs) bs) ∙ ap (λ (l : List ℕ). take (run_len (not_quote q) bs) bs ++ l) e);
      run = subst (IsRun (not_quote q) (take (run_len (not_quote q) bs) bs)) e (run_front (not_quote q) bs);
    })

pub quoted_takes : (bs : List ℕ) (x : List ℕ × List ℕ) → quoted_at bs ≡ Some x → Quoted x.0 bs x.1
unfolding quoted_at
quoted_takes [] x h = absurd cc
quoted_takes (q ∷ bs) x h = let g = guard_opt (eqb q 34 || eqb q 39) (until_quote q bs) x h in until_takes q (is_quote q g.0) bs x g.1

until_again : (q : ℕ) (s rest : List ℕ) → IsRun (not_quote q) s (q ∷ rest) → until_quote q (s ++ (q ∷ rest)) ≡ Some (s, rest)
unfolding until_quote
until_again q s rest h = rw (run_len_is (not_quote q) s (q ∷ rest) h, take-append_seam, drop-append_seam, byte_again)

pub quoted_again : (s bs rest : List ℕ) → Quoted s bs rest → quoted_at bs ≡ Some (s, rest)
unfolding quoted_at
quoted_again s bs rest h = rw (h.joined, quote_is h.quote h.double_or_single, until_again h.quote s rest h.run)

-- ---- what follows is no longer than the text

pub blank_shorter : {bs rest : List ℕ} → Blank bs rest → length rest ≤ length bs
blank_shorter h = rw h.joined (simp length-append (omega arith))

pub word_shorter : {w bs rest : List ℕ} → Word w bs rest → length rest ≤ length bs
word_shorter h = rw h.joined (simp length-append (omega arith))

pub quoted_shorter : {s bs rest : List ℕ} → Quoted s bs rest → length rest ≤ length bs
quoted_shorter h = rw h.joined (simp length-append (omega arith))

-- ---- numbers

pub guard_none : {A : Type 0} (b : Bool) (o : Option A) (y : A) → cond b None o ≡ Some y → (b ≡ false) × (o ≡ Some y)
guard_none true o y h = absurd cc
guard_none false o y h = (refl, h)

pub number_takes : (bs : List ℕ) (x : ℤ × List ℕ) → integer_at bs ≡ Some x → Number x.0 bs x.1
unfolding integer_at
number_takes bs x h =
    let g = guard_none (passes continues_number (drop (number_len bs) bs)) _ x h in
    let m = map_some (whole_text (take (number_len bs) bs)) _ x g.1 in
    subst (λ (x : ℤ × List ℕ). Number x.0 bs x.1) m.2 (record { spelling = take (number_len bs) bs; joined = sym (take-append-drop (number_len bs) bs); whole = m.1; ends = g.0 })

digits_run : (ds rest : List ℕ) → all_ascii_digits ds ≡ true → passes is_digit rest ≡ false → IsRun is_digit ds rest
digits_run [] rest h e = e
digits_run (c ∷ cs) rest h e = let p = and_parts (is_digit c (cs ++ rest)) (all_ascii_digits cs) h in (p.0, digits_run cs rest p.1 e)

some_signed : (s n : ℕ) → 0 < n → with_sign s n ≡ s + n
some_signed s zero h = absurd (omega arith)
some_signed s (suc n) h = refl

signed_len : (s : ℕ) (ds rest : List ℕ) → nat_lt 0 (length ds) && all_ascii_digits ds ≡ true → passes is_digit rest ≡ false → with_sign s (run_len is_digit (ds ++ rest)) ≡ s + length ds
signed_len s ds rest h e =
    let p = and_parts (nat_lt 0 (length ds)) (all_ascii_digits ds) h in
    let some : 0 < length ds = let q : nat_lt 0 (length ds) ≡ true = p.0 in search rules in
    ap (with_sign s) (run_len_is is_digit ds rest (digits_run ds rest p.1 e)) ∙ some_signed s (length ds) some

number_len_by : (b : ℕ) (t rest : List ℕ) (m p : Bool) → nat_lt 0 (length (cond m t (drop (cond p 1 0) (b ∷ t)))) && all_ascii_digits (cond m t (drop (cond p 1 0) (b ∷ t))) ≡ true → passes is_digit rest ≡ false
    → with_sign (cond (p || m) 1 0) (run_len is_digit (drop (cond (p || m) 1 0) (b ∷ (t ++ rest)))) ≡ suc (length t)
number_len_by b t rest true true h e = signed_len 1 t rest h e ∙ omega arith
number_len_by b t rest true false h e = signed_len 1 t rest h e ∙ omega arith
number_len_by b t rest false true h e = signed_len 1 t rest h e ∙ omega arith
number_len_by b t rest false false h e = signed_len 0 (b ∷ t) rest h e ∙ omega arith

spelling_len : (s rest : List ℕ) → is_whole_text s ≡ true → passes is_digit rest ≡ false → number_len (s ++ rest) ≡ length s
spelling_len [] rest h e = absurd cc
spelling_len (b ∷ t) rest h e = number_len_by b t rest (eqb b 45) (eqb b 43) h e

no_digit : (rest : List ℕ) → passes continues_number rest ≡ false → passes is_digit rest ≡ false
no_digit [] h = refl
no_digit (b ∷ bs) h = first_false (is_digit b bs) _ h
  where
    first_false : (a c : Bool) → (a || c) ≡ false → a ≡ false
    first_false true c h = absurd cc
    first_false false c h = refl

pub is_whole : (s : List ℕ) (n : ℤ) → whole_text s ≡ Some n → is_whole_text s ≡ true
is_whole s n h = (and_parts (is_whole_text s) _ (cond_some _ _ n h).0).0

pub number_again : (n : ℤ) (bs rest : List ℕ) → Number n bs rest → integer_at bs ≡ Some (n, rest)
unfolding integer_at
number_again n bs rest h =
    rw (h.joined, spelling_len h.spelling rest (is_whole h.spelling n h.whole) (no_digit rest h.ends), take-append_seam, drop-append_seam, h.ends, h.whole)

-- ---- what opens a value

-- a letter, `_`, a digit, a quote or a sign
unfoldable pub opens_value : ℕ → Bool
opens_value b = is_letter b || (is_digit b [] || ((eqb b 34 || eqb b 39) || (eqb b 43 || eqb b 45)))

whole_front_by : (b : ℕ) (t : List ℕ) (m p : Bool) → eqb b 45 ≡ m → eqb b 43 ≡ p → nat_lt 0 (length (cond m t (drop (cond p 1 0) (b ∷ t)))) && all_ascii_digits (cond m t (drop (cond p 1 0) (b ∷ t))) ≡ true
    → (is_digit b [] || (eqb b 43 || eqb b 45)) ≡ true
whole_front_by b t true p em ep h = or_right (is_digit b []) _ (or_right (eqb b 43) _ em)
whole_front_by b t false true em ep h = or_right (is_digit b []) _ (or_left (eqb b 43) _ ep)
whole_front_by b t false false em ep h = let a = and_parts (nat_lt 0 (suc (length t))) _ h in or_left (is_digit b []) _ (and_parts (is_digit b []) (all_ascii_digits t) a.1).0

-- a number begins with a digit or a sign
pub number_front : (n : ℤ) (bs rest : List ℕ) → Number n bs rest → (is_digit (get_or bs 0 0) [] || (eqb (get_or bs 0 0) 43 || eqb (get_or bs 0 0) 45)) ≡ true
number_front n bs rest h = rw h.joined (front h.spelling (is_whole h.spelling n h.whole))
  where
    front : (s : List ℕ) → is_whole_text s ≡ true → (is_digit (get_or (s ++ rest) 0 0) [] || (eqb (get_or (s ++ rest) 0 0) 43 || eqb (get_or (s ++ rest) 0 0) 45)) ≡ true
    front [] e = absurd cc
    front (b ∷ t) e = whole_front_by b t (eqb b 45) (eqb b 43) refl refl e

pub number_shorter : {n : ℤ} {bs rest : List ℕ} → Number n bs rest → length rest < length bs
number_shorter {n} {bs} {rest} h = rw h.joined (shorter h.spelling (is_whole h.spelling n h.whole))
  where
    shorter : (s : List ℕ) → is_whole_text s ≡ true → length rest < length (s ++ rest)
    shorter [] e = absurd cc
    shorter (b ∷ t) e = simp length-append (omega arith)

-- ---- a number opens no word and no quoted text

letter_high : (b : ℕ) → is_letter b ≡ true → 65 ≤ b
letter_high b h = grind (arith, nat_tests)

digit_high : (b : ℕ) → is_digit b [] ≡ true → b ≤ 57
digit_high b h = grind (arith, nat_tests)

digit_low : (b : ℕ) → is_digit b [] ≡ true → 43 ≤ b
digit_low b h = grind (arith, nat_tests)

numeric : (b : ℕ) → (is_digit b [] || (eqb b 43 || eqb b 45)) ≡ true → (43 ≤ b) × (b ≤ 57)
numeric b h = elim (either (is_digit b []) (eqb b 43 || eqb b 45) h) [
  | inl e ↦ (digit_low b e, digit_high b e)
  | inr e ↦ elim (either (eqb b 43) (eqb b 45) e) [ inl e ↦ let f = eqb-true b 43 e in (omega (arith, f), omega (arith, f)) | inr e ↦ let f = eqb-true b 45 e in (omega (arith, f), omega (arith, f)) ]
]

pub number_no_word : (n : ℤ) (bs rest : List ℕ) → Number n bs rest → word_at bs ≡ None
unfolding word_at
number_no_word n bs rest h =
    let r = numeric (get_or bs 0 0) (number_front n bs rest h) in
    let e : is_letter (get_or bs 0 0) ≡ false = false_from_ne_true _ (λ l. omega (arith, r.0, r.1, letter_high (get_or bs 0 0) l)) in rw e

pub number_no_quote : (n : ℤ) (bs rest : List ℕ) → Number n bs rest → quoted_at bs ≡ None
unfolding quoted_at
number_no_quote n [] rest h = refl
number_no_quote n (b ∷ bs) rest h =
    let r = numeric b (number_front n (b ∷ bs) rest h) in
    rw (ne_eqb b 34 (λ e. omega (arith, e, r.0)), ne_eqb b 39 (λ e. omega (arith, e, r.0)))
