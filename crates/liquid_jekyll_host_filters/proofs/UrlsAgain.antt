-- URLs that are made once more.
use Rattle.std.proofs.Common.{◌≡◌, ℕ, zero, suc, ◌/◌, ◌%◌, ◌<◌, ◌≤◌, Bool, true, false, not, ◌&&◌, ◌||◌, ◌==◌, cond, List, [], ◌∷◌, ◌++◌, Ok, ap, ap₂, refl, sym, subst, ◌∙◌, arith, if◌then◌else◌}
use borrow.Author.Count.{below_more}
use Rattle.std.proofs.lemmas.Bool.{and_parts}
use Rattle.std.proofs.lemmas.Bool.Decides.{nat_tests}
use Rattle.std.specs.Char.{is_ascii_alphabetic, is_ascii_hexdigit}
use Rattle.std.specs.Fmt.{digit_glyph}
use Rattle.std.specs.Prelude.{nat_le, nat_lt}
use Rattle.percent_encoding.specs.Percent.{percent_encode_byte}
use Rattle.liquid_model.specs.Data.{Datum, nil, truth, number, text, array, object, text_of}
use Rattle.liquid_model.specs.Fallible.{◌>>=◌}
use Rattle.liquid_model.specs.Texts.{Text}
use Rattle.liquid_model.specs.Arguments.{Answer}
use Rattle.liquid_jekyll_host_filters.specs.Laws.{AbsoluteUrlTwiceIsOnce, RelativeUrlTwiceIsOnce}
use Rattle.liquid_jekyll_host_filters.specs.Urls.{addressed, begins_digits, in_place, is_absolute, is_scheme_byte, or_slash, path_text, reaches_colon, relative, site_url, stays, url_byte, url_escaped_as}
use Rattle.liquid_jekyll_host_filters.specs.declared.percent.Escaping.TheVariants.{Path}

-- ---- an absolute URL stays one, whatever follows it
reaches_by : (b : ℕ) (s x : Text) (t : Bool) → (b == 58) ≡ t → (b == 58 || (is_scheme_byte b && reaches_colon s)) ≡ true
    → (reaches_colon s ≡ true → reaches_colon (s ++ x) ≡ true) → (b == 58 || (is_scheme_byte b && reaches_colon (s ++ x))) ≡ true
reaches_by b s x true e h more = ap (λ t. t || (is_scheme_byte b && reaches_colon (s ++ x))) e
reaches_by b s x false e h more =
    let k : (is_scheme_byte b && reaches_colon s) ≡ true = sym (ap (λ t. t || (is_scheme_byte b && reaches_colon s)) e) ∙ h in
    let p = and_parts (is_scheme_byte b) (reaches_colon s) k in
    ap (λ t. t || (is_scheme_byte b && reaches_colon (s ++ x))) e ∙ ap (λ t. t && reaches_colon (s ++ x)) p.0 ∙ more p.1

reaches_more : (s x : Text) → reaches_colon s ≡ true → reaches_colon (s ++ x) ≡ true
reaches_more [] x h = cc
reaches_more (b ∷ s) x h = reaches_by b s x (b == 58) refl h (reaches_more s x)

after_address : (address path : Text) → is_absolute address ≡ true → is_absolute (addressed address path) ≡ true
after_address [] path h = cc
after_address (b ∷ s) path h =
    let p = and_parts (is_ascii_alphabetic b) (reaches_colon s) h in
    ap (λ t. t && reaches_colon (s ++ or_slash path)) p.0 ∙ reaches_more s (or_slash path) p.1

-- ---- once more
abbrev made : Text → Text → Datum → Answer
made address base d = if is_absolute (text_of d) then Ok d else Ok (text (addressed address (relative base (text_of d))))

-- a value that isn't nil, where what is made of it stays
made_again : (address base : Text) (d : Datum) (t : Bool) → is_absolute (text_of d) ≡ t → site_url address base d ≡ made address base d
    → site_url address base (text (addressed address (relative base (text_of d)))) ≡ Ok (text (addressed address (relative base (text_of d))))
    → made address base d >>= site_url address base ≡ made address base d
made_again address base d true e is again =
    let m = ap (λ t. if t then Ok d else Ok (text (addressed address (relative base (text_of d))))) e in ap (λ a. a >>= site_url address base) m ∙ is
made_again address base d false e is again =
    let m = ap (λ t. if t then Ok d else Ok (text (addressed address (relative base (text_of d))))) e in ap (λ a. a >>= site_url address base) m ∙ again ∙ sym m

twice : (address base : Text) (d : Datum) → ((s : Text) → site_url address base (text (addressed address (relative base s))) ≡ Ok (text (addressed address (relative base s))))
    → site_url address base d >>= site_url address base ≡ site_url address base d
twice address base nil again = refl
twice address base (truth b) again = made_again address base (truth b) (is_absolute (text_of (truth b))) refl refl (again (text_of (truth b)))
twice address base (number z) again = made_again address base (number z) (is_absolute (text_of (number z))) refl refl (again (text_of (number z)))
twice address base (text s) again = made_again address base (text s) (is_absolute s) refl refl (again s)
twice address base (array ds) again = made_again address base (array ds) (is_absolute (text_of (array ds))) refl refl (again (text_of (array ds)))
twice address base (object ms) again = made_again address base (object ms) (is_absolute (text_of (object ms))) refl refl (again (text_of (object ms)))

pub absolute_twice : AbsoluteUrlTwiceIsOnce
absolute_twice address base d h =
    twice address base d (λ s. let x = addressed address (relative base s) in ap (λ t. if t then Ok (text x) else Ok (text (addressed address (relative base x)))) (after_address address (relative base s) h))

-- ---- what is escaped stays
abbrev IsGlyph : ℕ → Type 0
IsGlyph g = (is_ascii_hexdigit g ≡ true) × ((g == 37) ≡ false) × (stays Path g ≡ true)

abbrev is_glyph : ℕ → Bool
is_glyph g = cond (is_ascii_hexdigit g) (cond (g == 37) false (stays Path g)) false

abbrev all_glyphs : ℕ → Bool
all_glyphs zero = true
all_glyphs (suc n) = cond (is_glyph (digit_glyph true n)) (all_glyphs n) false

true_not_false : (t : Bool) → t ≡ true → t ≡ false → ⊥
true_not_false true h k = cc
true_not_false false h k = cc

cond_parts : (s t : Bool) → cond s t false ≡ true → (s ≡ true) × (t ≡ true)
cond_parts true t h = (refl, h)
cond_parts false t h = cc

cond_other : (s t : Bool) → cond s false t ≡ true → (s ≡ false) × (t ≡ true)
cond_other true t h = cc
cond_other false t h = (refl, h)

glyph_is : (g : ℕ) → is_glyph g ≡ true → IsGlyph g
glyph_is g h =
    let p = cond_parts (is_ascii_hexdigit g) (cond (g == 37) false (stays Path g)) h in
    let q = cond_other (g == 37) (stays Path g) p.1 in (p.0, q.0, q.1)

glyph_below : (n d : ℕ) → all_glyphs n ≡ true → d < n → IsGlyph (digit_glyph true d)
glyph_below zero d h l = absurd (omega arith)
glyph_below (suc n) d h l =
    let p = cond_parts (is_glyph (digit_glyph true n)) (all_glyphs n) h in
    below_more (λ k. IsGlyph (digit_glyph true k)) n (λ k. glyph_below n k p.1) (glyph_is (digit_glyph true n) p.0) d (omega arith)

glyph : (d : ℕ) → d < 16 → IsGlyph (digit_glyph true d)
glyph d l = glyph_below 16 d refl l

abbrev again : Text → Text
again = url_escaped_as Path

-- a byte that stays and is no mark
kept_byte : (b : ℕ) (s : Text) → (b == 37) ≡ false → stays Path b ≡ true → url_byte Path b s ≡ b ∷ []
kept_byte b s e k = ap (λ t. if t then in_place Path s else (if stays Path b then b ∷ [] else percent_encode_byte b)) e ∙ ap (λ t. if t then b ∷ [] else percent_encode_byte b) k

kept_on : (b : ℕ) (s : Text) → (b == 37) ≡ false → stays Path b ≡ true → again (b ∷ s) ≡ b ∷ again s
kept_on b s e k = ap (λ t. t ++ again s) (kept_byte b s e k)

-- an escape stays
escape_on : (g h : ℕ) (s : Text) → IsGlyph g → IsGlyph h → again (37 ∷ g ∷ h ∷ s) ≡ 37 ∷ g ∷ h ∷ again s
escape_on g h s p q =
    let d : begins_digits (g ∷ h ∷ s) ≡ true = ap₂ (λ x y. x && y) p.0 q.0 in
    ap (λ t. (if t then 37 ∷ [] else 37 ∷ 50 ∷ 53 ∷ []) ++ again (g ∷ h ∷ s)) d ∙ ap (λ t. 37 ∷ t) (kept_on g (h ∷ s) p.1 p.2 ∙ ap (λ t. g ∷ t) (kept_on h s q.1 q.2))

byte_on : (b : ℕ) (s : Text) → again (percent_encode_byte b ++ s) ≡ percent_encode_byte b ++ again s
unfolding percent_encode_byte
byte_on b s = escape_on (digit_glyph true (b / 16 % 16)) (digit_glyph true (b % 16)) s (glyph (b / 16 % 16) (omega arith)) (glyph (b % 16) (omega arith))

-- where digits stand at the start they stand there when what follows is escaped
abbrev HexdigitStays : ℕ → Type 0
HexdigitStays h = is_ascii_hexdigit h ≡ true → ((h == 37) ≡ false) × (stays Path h ≡ true)

abbrev hexdigit_stays_at : ℕ → Bool
hexdigit_stays_at h = cond (is_ascii_hexdigit h) (cond (h == 37) false (stays Path h)) true

abbrev hexdigits_stay_below : ℕ → Bool
hexdigits_stay_below zero = true
hexdigits_stay_below (suc n) = cond (hexdigit_stays_at n) (hexdigits_stay_below n) false

kept_if : (t : Bool) (h : ℕ) → is_ascii_hexdigit h ≡ t → hexdigit_stays_at h ≡ true → HexdigitStays h
kept_if true h e k d = cond_other (h == 37) (stays Path h) (sym (ap (λ t. cond t (cond (h == 37) false (stays Path h)) true) e) ∙ k)
kept_if false h e k d = absurd (true_not_false (is_ascii_hexdigit h) d e)

kept_below : (n h : ℕ) → hexdigits_stay_below n ≡ true → h < n → HexdigitStays h
kept_below zero h k l = absurd (omega arith)
kept_below (suc n) h k l =
    let p = cond_parts (hexdigit_stays_at n) (hexdigits_stay_below n) k in
    below_more HexdigitStays n (λ j. kept_below n j p.1) (kept_if (is_ascii_hexdigit n) n refl p.0) h (omega arith)

high_no_digit : (h : ℕ) → 128 ≤ h → is_ascii_hexdigit h ≡ false
high_no_digit h l =
    let a1 : nat_le h 57 ≡ false = grind (arith, nat_tests) in let a2 : nat_le h 70 ≡ false = grind (arith, nat_tests) in
    let a3 : nat_le h 102 ≡ false = grind (arith, nat_tests) in let b1 : nat_le 48 h ≡ true = grind (arith, nat_tests) in
    let b2 : nat_le 65 h ≡ true = grind (arith, nat_tests) in let b3 : nat_le 97 h ≡ true = grind (arith, nat_tests) in
    rw (a1, a2, a3, b1, b2, b3) refl

kept_by : (h : ℕ) (t : Bool) → nat_lt h 128 ≡ t → HexdigitStays h
kept_by h true e d = kept_below 128 h refl (grind (arith, nat_tests)) d
kept_by h false e d = let high : 128 ≤ h = grind (arith, nat_tests) in absurd (true_not_false (is_ascii_hexdigit h) d (high_no_digit h high))

hexdigit_stays : (h : ℕ) → HexdigitStays h
hexdigit_stays h = kept_by h (nat_lt h 128) refl

digits_stay : (s : Text) → begins_digits s ≡ true → begins_digits (again s) ≡ true
digits_stay [] h = cc
digits_stay (a ∷ []) h = cc
digits_stay (a ∷ b ∷ s) h =
    let p = and_parts (is_ascii_hexdigit a) (is_ascii_hexdigit b) h in
    let x = hexdigit_stays a p.0 in
    let y = hexdigit_stays b p.1 in
    ap begins_digits (kept_on a (b ∷ s) x.0 x.1 ∙ ap (λ t. a ∷ t) (kept_on b s y.0 y.1)) ∙ h

mark_by : (b : ℕ) (s : Text) (t : Bool) → begins_digits s ≡ t → again (again s) ≡ again s → again ((if t then 37 ∷ [] else 37 ∷ 50 ∷ 53 ∷ []) ++ again s) ≡ (if t then 37 ∷ [] else 37 ∷ 50 ∷ 53 ∷ []) ++ again s
mark_by b s true e h = ap (λ t. (if t then 37 ∷ [] else 37 ∷ 50 ∷ 53 ∷ []) ++ again (again s)) (digits_stay s e) ∙ ap (λ t. 37 ∷ t) h
mark_by b s false e h = ap (λ t. 37 ∷ 50 ∷ 53 ∷ t) h

byte_by : (b : ℕ) (s : Text) (m k : Bool) → (b == 37) ≡ m → stays Path b ≡ k → again (again s) ≡ again s → again (url_byte Path b s ++ again s) ≡ url_byte Path b s ++ again s
byte_by b s true k e f h = rw e (mark_by b s (begins_digits s) refl h)
byte_by b s false true e f h = ap (λ t. again (t ++ again s)) (kept_byte b s e f) ∙ kept_on b (again s) e f ∙ ap (λ t. b ∷ t) h ∙ ap (λ t. t ++ again s) (sym (kept_byte b s e f))
byte_by b s false false e f h =
    let m = ap (λ t. if t then in_place Path s else (if stays Path b then b ∷ [] else percent_encode_byte b)) e ∙ ap (λ t. if t then b ∷ [] else percent_encode_byte b) f in
    ap (λ t. again (t ++ again s)) m ∙ byte_on b (again s) ∙ ap (λ t. percent_encode_byte b ++ t) h ∙ ap (λ t. t ++ again s) (sym m)

escaped_again : (s : Text) → again (again s) ≡ again s
escaped_again [] = refl
escaped_again (b ∷ s) = byte_by b s (b == 37) (stays Path b) refl refl (escaped_again s)

-- ---- a path without a base
slash_on : (b : ℕ) (s : Text) (t : Bool) → (b == 47) ≡ t → (x : Text) × (path_text (b ∷ s) ≡ 47 ∷ again x)
slash_on b s true e =
    let is : b ≡ 47 = grind (arith, nat_tests) in
    (s, ap (λ c. path_text (c ∷ s)) is)
slash_on b s false e = (b ∷ s, ap (λ t. (if not t then 47 ∷ [] else []) ++ again (b ∷ s)) e)

path_again : (s : Text) → site_url [] [] (text (path_text s)) ≡ Ok (text (path_text s))
path_again [] = refl
path_again (b ∷ s) =
    let p = slash_on b s (b == 47) refl in
    ap (λ t. site_url [] [] (text t)) p.1 ∙ ap (λ t. Ok (text (47 ∷ t))) (escaped_again p.0) ∙ ap (λ t. Ok (text t)) (sym p.1)

pub relative_twice : RelativeUrlTwiceIsOnce
relative_twice d = twice [] [] d (λ s. path_again s)
