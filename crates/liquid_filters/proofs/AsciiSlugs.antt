-- Slugs of the mode `ascii`: letters, digits and single inner hyphens, which stay as they are.
use Rattle.std.proofs.Common.{◌≡◌, ℕ, ◌<◌, ◌==◌, ◌&&◌, ◌||◌, Bool, true, false, cond, not, List, [], ◌∷◌, ◌++◌, length, map, Ok, ap, refl, sym, subst, ◌∙◌, arith}
use Rattle.std.proofs.lemmas.Bool.Decides.{nat_tests}
use Rattle.std.specs.Prelude.{⊤}
use Rattle.std.proofs.lemmas.Str.{chars-encodes, encode_ascii}
use Rattle.std.specs.Char.{is_whitespace, to_ascii_lowercase}
use Rattle.std.specs.Str.{all_scalars, chars, drop_trailing_whitespace, encode_utf8_all, skip_leading_whitespace, trim, trim_end, trim_start}
use lib.Utf8.{low_scalar}
use Rattle.liquid_model.specs.Data.{Datum, text, text_of}
use Rattle.liquid_model.specs.Arguments.{Answer}
use Rattle.liquid_filters.specs.JekyllLaws.{AsciiSlugs}
use Rattle.liquid_filters.specs.Runs.{AreSingle, AreSlugLetters, EndsOther, IsSlug, StartsOther, is_slug_letter}
use Rattle.liquid_filters.specs.Slugs.{hyphened, without_outer, keeps, slug_character, slug, without_last}
use Rattle.liquid_filters.specs.declared.jekyll.slugify.Mode.TheVariants.{Ascii}
use Rattle.liquid_filters.proofs.Hyphens.{cuts_stand, first_stays, last_stays}

abbrev ascii : ℕ → Bool
ascii = keeps Ascii

-- ---- what hyphens stand between
abbrev AreAsciiOrHyphens : List ℕ → Type 0
AreAsciiOrHyphens [] = ⊤
AreAsciiOrHyphens (c ∷ cs) = ((ascii c || c == 45) ≡ true) × AreAsciiOrHyphens cs

apart : (c : ℕ) → ascii c ≡ true → (c == 45) ≡ false
apart c h = grind (arith, nat_tests)

kept_by : (b after : Bool) (c : ℕ) (rest : List ℕ) → ascii c ≡ b → AreAsciiOrHyphens rest → AreAsciiOrHyphens (slug_character b after c ++ rest)
kept_by true after c rest e h = (ap (λ b. b || c == 45) e, h)
kept_by false true c rest e h = h
kept_by false false c rest e h = (refl, h)

kept : (after : Bool) (cs : List ℕ) → AreAsciiOrHyphens (hyphened ascii after cs)
kept after [] = tt
kept after (c ∷ cs) = kept_by (ascii c) after c (hyphened ascii (not (ascii c)) cs) refl (kept (not (ascii c)) cs)

letter_single : (c : ℕ) (cs : List ℕ) → (c == 45) ≡ false → AreSingle cs → AreSingle (c ∷ cs)
letter_single c [] e h = tt
letter_single c (d ∷ cs) e h = (ap (λ b. b && d == 45) e, h)

hyphen_single : (cs : List ℕ) → StartsOther cs → AreSingle cs → AreSingle (45 ∷ cs)
hyphen_single [] e h = tt
hyphen_single (d ∷ cs) e h = (e, h)

abbrev Single : Bool → List ℕ → Type 0
Single after ds = AreSingle ds × (after ≡ true → StartsOther ds)

single_by : (b after : Bool) (c : ℕ) (rest : List ℕ) → ascii c ≡ b → Single (not b) rest → Single after (slug_character b after c ++ rest)
single_by true after c rest e h = (letter_single c rest (apart c e) h.0, λ a. apart c e)
single_by false true c rest e h = (h.0, λ a. h.1 refl)
single_by false false c rest e h = (hyphen_single rest (h.1 refl) h.0, λ a. absurd (let u : ⊥ = cc in u))

single : (after : Bool) (cs : List ℕ) → Single after (hyphened ascii after cs)
single after [] = (tt, λ a. tt)
single after (c ∷ cs) = single_by (ascii c) after c (hyphened ascii (not (ascii c)) cs) refl (single (not (ascii c)) cs)

-- ---- a part of such characters
kept_after : (xs ys : List ℕ) → AreAsciiOrHyphens (xs ++ ys) → AreAsciiOrHyphens ys
kept_after [] ys h = h
kept_after (x ∷ xs) ys h = kept_after xs ys h.1

kept_front : (xs ys : List ℕ) → AreAsciiOrHyphens (xs ++ ys) → AreAsciiOrHyphens xs
kept_front [] ys h = tt
kept_front (x ∷ xs) ys h = (h.0, kept_front xs ys h.1)

single_tail : (x : ℕ) (ys : List ℕ) → AreSingle (x ∷ ys) → AreSingle ys
single_tail x [] h = tt
single_tail x (y ∷ ys) h = h.1

single_after : (xs ys : List ℕ) → AreSingle (xs ++ ys) → AreSingle ys
single_after [] ys h = h
single_after (x ∷ xs) ys h = single_after xs ys (single_tail x (xs ++ ys) h)

single_front : (xs ys : List ℕ) → AreSingle (xs ++ ys) → AreSingle xs
single_front [] ys h = tt
single_front (x ∷ []) ys h = tt
single_front (x ∷ (y ∷ xs)) ys h = (h.0, single_front (y ∷ xs) ys h.1)

-- ---- their bytes, in lower case
low : (c : ℕ) → (ascii c || c == 45) ≡ true → c < 128
low c h = grind (arith, nat_tests)

encodes_low : (cs : List ℕ) → AreAsciiOrHyphens cs → encode_utf8_all cs ≡ cs
encodes_low [] h = refl
encodes_low (c ∷ cs) h = ap (λ t. t ++ encode_utf8_all cs) (encode_ascii c (low c h.0)) ∙ ap (λ t. c ∷ t) (encodes_low cs h.1)

lower_letter : (c : ℕ) → (ascii c || c == 45) ≡ true → is_slug_letter (to_ascii_lowercase c) ≡ true
lower_letter c h = grind (arith, nat_tests)

lower_hyphen : (c : ℕ) → (to_ascii_lowercase c == 45) ≡ (c == 45)
lower_hyphen c = grind (arith, nat_tests)

lowered_letters : (cs : List ℕ) → AreAsciiOrHyphens cs → AreSlugLetters (map to_ascii_lowercase cs)
lowered_letters [] h = tt
lowered_letters (c ∷ cs) h = (lower_letter c h.0, lowered_letters cs h.1)

lowered_starts : (cs : List ℕ) → StartsOther cs → StartsOther (map to_ascii_lowercase cs)
lowered_starts [] h = tt
lowered_starts (c ∷ cs) h = lower_hyphen c ∙ h

lowered_ends : (cs : List ℕ) → EndsOther cs → EndsOther (map to_ascii_lowercase cs)
lowered_ends [] h = tt
lowered_ends (c ∷ []) h = lower_hyphen c ∙ h
lowered_ends (c ∷ (d ∷ cs)) h = lowered_ends (d ∷ cs) h

lowered_single : (cs : List ℕ) → AreSingle cs → AreSingle (map to_ascii_lowercase cs)
lowered_single [] h = tt
lowered_single (c ∷ []) h = tt
lowered_single (c ∷ (d ∷ cs)) h =
    (ap (λ b. b && (to_ascii_lowercase d == 45)) (lower_hyphen c) ∙ ap (λ b. (c == 45) && b) (lower_hyphen d) ∙ h.0, lowered_single (d ∷ cs) h.1)

cut_slug : (ds : List ℕ) → AreAsciiOrHyphens ds → AreSingle ds → IsSlug (map to_ascii_lowercase (encode_utf8_all (without_outer ds)))
cut_slug ds h k =
    let c = cuts_stand ds in
    let cut = without_outer ds in
    let all : AreAsciiOrHyphens cut = kept_front cut c.1 (kept_after c.0 (cut ++ c.1) (subst AreAsciiOrHyphens c.2 h)) in
    let one : AreSingle cut = single_front cut c.1 (single_after c.0 (cut ++ c.1) (subst AreSingle c.2 k)) in
    subst (λ t. IsSlug (map to_ascii_lowercase t)) (sym (encodes_low cut all))
    (record { letters = lowered_letters cut all; starts = lowered_starts cut c.5; ends = lowered_ends cut c.6; single = lowered_single cut one })

is_slug : (s : List ℕ) → IsSlug (slug Ascii s)
is_slug s = cut_slug (hyphened ascii false (chars (trim s))) (kept false (chars (trim s))) (single false (chars (trim s))).0

-- ---- a slug stays
letter_kept : (c : ℕ) → is_slug_letter c ≡ true → (ascii c || c == 45) ≡ true
letter_kept c h = grind (arith, nat_tests)

letter_lower : (c : ℕ) → is_slug_letter c ≡ true → to_ascii_lowercase c ≡ c
letter_lower c h = grind (arith, nat_tests)

letter_plain : (c : ℕ) → is_slug_letter c ≡ true → is_whitespace c ≡ false
letter_plain c h = grind (arith, nat_tests)

letter_hyphen : (c : ℕ) → is_slug_letter c ≡ true → ascii c ≡ false → c ≡ 45
letter_hyphen c h k = grind (arith, nat_tests)

letters_kept : (t : List ℕ) → AreSlugLetters t → AreAsciiOrHyphens t
letters_kept [] h = tt
letters_kept (c ∷ t) h = (letter_kept c h.0, letters_kept t h.1)

letters_lower : (t : List ℕ) → AreSlugLetters t → map to_ascii_lowercase t ≡ t
letters_lower [] h = refl
letters_lower (c ∷ t) h = ap (λ d. d ∷ map to_ascii_lowercase t) (letter_lower c h.0) ∙ ap (λ u. c ∷ u) (letters_lower t h.1)

letters_scalars : (t : List ℕ) → AreSlugLetters t → all_scalars t ≡ true
letters_scalars [] h = refl
letters_scalars (c ∷ t) h = ap (λ b. b && all_scalars t) (low_scalar c (omega (arith, low c (letter_kept c h.0)))) ∙ letters_scalars t h.1

letters_chars : (t : List ℕ) → AreSlugLetters t → chars t ≡ t
letters_chars t h = ap chars (sym (encodes_low t (letters_kept t h))) ∙ chars-encodes t (letters_scalars t h)

skip_none : (t : List ℕ) → AreSlugLetters t → skip_leading_whitespace t ≡ t
skip_none [] h = refl
skip_none (c ∷ t) h = ap (λ b. cond b (skip_leading_whitespace t) (c ∷ t)) (letter_plain c h.0)

drop_none : (t : List ℕ) → AreSlugLetters t → drop_trailing_whitespace t ≡ t
drop_none [] h = refl
drop_none (c ∷ t) h =
    ap (λ b. cond (b && length (drop_trailing_whitespace t) == 0) [] (c ∷ drop_trailing_whitespace t)) (letter_plain c h.0) ∙ ap (λ u. c ∷ u) (drop_none t h.1)

trimmed_start : (t : List ℕ) → AreSlugLetters t → trim_start t ≡ t
unfolding trim_start
trimmed_start t h = ap (λ cs. encode_utf8_all (skip_leading_whitespace cs)) (letters_chars t h) ∙ ap encode_utf8_all (skip_none t h) ∙ encodes_low t (letters_kept t h)

trimmed_end : (t : List ℕ) → AreSlugLetters t → trim_end t ≡ t
unfolding trim_end
trimmed_end t h = ap (λ cs. encode_utf8_all (drop_trailing_whitespace cs)) (letters_chars t h) ∙ ap encode_utf8_all (drop_none t h) ∙ encodes_low t (letters_kept t h)

trimmed : (t : List ℕ) → AreSlugLetters t → trim t ≡ t
trimmed t h = ap trim_end (trimmed_start t h) ∙ trimmed_end t h

after_hyphen : (c : ℕ) (t : List ℕ) → c ≡ 45 → AreSingle (c ∷ t) → StartsOther t
after_hyphen c [] e h = tt
after_hyphen c (d ∷ t) e h = ap (λ n. (n == 45) && (d == 45)) (sym e) ∙ h.0

stays_by : (b after : Bool) (c : ℕ) (t rest : List ℕ) → ascii c ≡ b → is_slug_letter c ≡ true → (after ≡ true → (c == 45) ≡ false) → rest ≡ t → slug_character b after c ++ rest ≡ c ∷ t
stays_by true after c t rest e h s r = ap (λ u. c ∷ u) r
stays_by false true c t rest e h s r =
    let k : (45 == 45) ≡ false = subst (λ n. (n == 45) ≡ false) (letter_hyphen c h e) (s refl) in absurd (let u : ⊥ = cc in u)
stays_by false false c t rest e h s r = ap (λ n. n ∷ rest) (sym (letter_hyphen c h e)) ∙ ap (λ u. c ∷ u) r

stays : (after : Bool) (t : List ℕ) → AreSlugLetters t → Single after t → hyphened ascii after t ≡ t
stays after [] h s = refl
stays after (c ∷ t) h s =
    stays_by (ascii c) after c t (hyphened ascii (not (ascii c)) t) refl h.0 s.1 (stays (not (ascii c)) t h.1 (single_tail c t s.0, turned (ascii c) refl))
  where
    turned : (b : Bool) → ascii c ≡ b → not b ≡ true → StartsOther t
    turned true e k = absurd (let u : ⊥ = cc in u)
    turned false e k = after_hyphen c t (letter_hyphen c h.0 e) s.0

slug_stays : (t : List ℕ) → IsSlug t → slug Ascii t ≡ t
slug_stays t h =
    let cs : chars (trim t) ≡ t = ap chars (trimmed t h.letters) ∙ letters_chars t h.letters in
    let ds : hyphened ascii false t ≡ t = stays false t h.letters (h.single, λ e. absurd (let u : ⊥ = cc in u)) in
    ap (λ l. map to_ascii_lowercase (encode_utf8_all (without_outer (hyphened ascii false l)))) cs
    ∙ ap (λ l. map to_ascii_lowercase (encode_utf8_all (without_outer l))) ds
    ∙ ap (λ l. map to_ascii_lowercase (encode_utf8_all l)) (ap (λ l. without_last l) (first_stays t h.starts) ∙ last_stays t h.ends)
    ∙ ap (map to_ascii_lowercase) (encodes_low t (letters_kept t h.letters))
    ∙ letters_lower t h.letters

abbrev answer : Datum → Answer
answer d = Ok d

ascii_by : (d e : Datum) → answer (text (slug Ascii (text_of d))) ≡ answer e → (t : List ℕ) × (e ≡ text t) × IsSlug t × (answer (text (slug Ascii (text_of e))) ≡ answer e)
ascii_by d e h =
    let t = slug Ascii (text_of d) in
    let f : e ≡ text t = cc in
    (t, f, is_slug (text_of d), subst (λ x. answer (text (slug Ascii (text_of x))) ≡ answer x) (sym f) (ap (λ l. answer (text l)) (slug_stays t (is_slug (text_of d)))))

pub ascii_slugs : AsciiSlugs
ascii_slugs d e h = ascii_by d e h
