-- The laws of the filters over HTML.
use Rattle.std.proofs.Common.{◌≡◌, ℕ, zero, suc, ◌-◌, ◌≤◌, Bool, true, false, ◌&&◌, ◌||◌, ◌==◌, List, [], ◌∷◌, ◌++◌, codes, length, drop, refl, ap, subst, sym, ◌∙◌, arith, Ok, if◌then◌else◌}
use Rattle.std.proofs.lemmas.Bool.Decides.{nat_tests}
use Rattle.std.proofs.lemmas.List.Concat.{flat_map-append}
use Rattle.std.proofs.lemmas.Str.{encode_ascii, encodes-chars, chars-encodes, scalars-chars}
use Rattle.std.specs.List.{flat_map}
use Rattle.std.specs.Str.{chars, encode_utf8_all, IsUtf8}
use Rattle.std.proofs.lemmas.Bool.{and_parts, and_from}
use lib.Utf8.{encode, encodes, scalar, scalars}
use Rattle.liquid_model.specs.Answer.{IsTheOne}
use Rattle.liquid_model.specs.Data.{Datum, nil, truth, number, text, array, object, text_of}
use Rattle.liquid_model.specs.Fallible.{◌>>=◌}
use Rattle.liquid_model.specs.Texts.{Text}
use Rattle.liquid_model.specs.Arguments.{Answer}
use Rattle.liquid_model.specs.Text.{Texts}
use Rattle.liquid_model.proofs.Ones.{image_one, same_one}
use Rattle.liquid_filters.specs.Escapes.{escape_answer, escape_once_answer, escaped_bytes, escaped_byte, escaped_letter, escaped_once, once_letter}
use Rattle.liquid_filters.specs.HtmlLaws.{Concatenates, NilOrTexts, has_close, HasNoTag}
use Rattle.liquid_filters.specs.LineBreaks.{broken, broken_byte, broken_letter, newline_to_br_answer}
use Rattle.liquid_filters.specs.Tags.{begins_mark, has_mark, kept, without_pairs, without_tags, strip_html}
use Rattle.liquid_filters.proofs.Bytes.{AllHigh, high_bytes, ascii_or_high}
use Rattle.liquid_filters.proofs.Escapes.{letter_of as escaped_letter_of, once_past, once-once, once-escaped}
use Rattle.liquid_filters.proofs.LineBreaks.{letter_of as broken_letter_of}
use Rattle.liquid_filters.proofs.Tags.{nothing_left, twice}

-- ---- concatenations
module _ (f : ℕ → List ℕ → Text) (g : List ℕ → Text) (z : g [] ≡ []) (step : (c : ℕ) (cs : List ℕ) → g (c ∷ cs) ≡ f c cs ++ g cs) where
  made_is : (cs : List ℕ) (t : Text) → Concatenates f cs t → t ≡ g cs
  made_is [] t h = h ∙ sym z
  made_is (c ∷ cs) t h = h.1 ∙ ap (λ r. f c cs ++ r) (made_is cs h.0 h.2) ∙ sym (step c cs)

  made_meets : (cs : List ℕ) → Concatenates f cs (g cs)
  made_meets [] = z
  made_meets (c ∷ cs) = (g cs, step c cs, made_meets cs)

  pub concatenation : (cs : List ℕ) → IsTheOne (Concatenates f cs) (g cs)
  concatenation cs = λ t. (made_is cs t, λ e. subst (Concatenates f cs) (sym e) (made_meets cs))

-- the same over the characters of a text
over_letters : (f : ℕ → List ℕ → Text) (g : Text → Text) → g [] ≡ [] → ((c : ℕ) (cs : List ℕ) → g (encode c ++ encodes cs) ≡ f c cs ++ g (encodes cs)) → (s : Text) → IsUtf8 s → IsTheOne (Concatenates f (chars s)) (g s)
over_letters f g z step s u = subst (IsTheOne (Concatenates f (chars s))) (ap g (encodes-chars s u)) (concatenation f (λ cs. g (encodes cs)) z step (chars s))

mapped_past : (f : ℕ → List ℕ) (made : ℕ → List ℕ) → ((c : ℕ) → flat_map f (encode c) ≡ made c) → (c : ℕ) (rest : List ℕ) → flat_map f (encode c ++ rest) ≡ made c ++ flat_map f rest
mapped_past f made h c rest = flat_map-append f (encode c) rest ∙ ap (λ t. t ++ flat_map f rest) (h c)

escaped_text : (s : Text) → IsUtf8 s → IsTheOne (Texts (Concatenates (λ c cs. escaped_letter c) (chars s))) (Ok (text (escaped_bytes s)))
escaped_text s u = image_one (Concatenates (λ c cs. escaped_letter c) (chars s)) (λ t. Ok (text t)) (escaped_bytes s)
    (over_letters (λ c cs. escaped_letter c) escaped_bytes refl (λ c cs. mapped_past escaped_byte escaped_letter escaped_letter_of c (encodes cs)) s u)

pub escape_one : (d : Datum) (args : List Datum) → IsUtf8 (text_of d) → IsTheOne (NilOrTexts (λ s. Concatenates (λ c cs. escaped_letter c) (chars s)) d) (escape_answer d args)
escape_one nil args u = same_one (Ok nil)
escape_one (truth b) args u = escaped_text (text_of (truth b)) u
escape_one (number z) args u = escaped_text (text_of (number z)) u
escape_one (text s) args u = escaped_text s u
escape_one (array ds) args u = escaped_text (text_of (array ds)) u
escape_one (object ps) args u = escaped_text (text_of (object ps)) u

once_text : (s : Text) → IsUtf8 s → IsTheOne (Texts (Concatenates (λ c cs. once_letter c (encode_utf8_all cs)) (chars s))) (Ok (text (escaped_once s)))
once_text s u = image_one (Concatenates (λ c cs. once_letter c (encode_utf8_all cs)) (chars s)) (λ t. Ok (text t)) (escaped_once s)
    (over_letters (λ c cs. once_letter c (encode_utf8_all cs)) escaped_once refl (λ c cs. once_past c (encodes cs)) s u)

pub escape_once_one : (d : Datum) (args : List Datum) → IsUtf8 (text_of d) → IsTheOne (NilOrTexts (λ s. Concatenates (λ c cs. once_letter c (encode_utf8_all cs)) (chars s)) d) (escape_once_answer d args)
escape_once_one nil args u = same_one (Ok nil)
escape_once_one (truth b) args u = once_text (text_of (truth b)) u
escape_once_one (number z) args u = once_text (text_of (number z)) u
escape_once_one (text s) args u = once_text s u
escape_once_one (array ds) args u = once_text (text_of (array ds)) u
escape_once_one (object ps) args u = once_text (text_of (object ps)) u

pub newline_to_br_one : (d : Datum) (args : List Datum) → IsUtf8 (text_of d) → IsTheOne (Texts (Concatenates (λ c cs. broken_letter c) (chars (text_of d)))) (newline_to_br_answer d args)
newline_to_br_one d args u = image_one (Concatenates (λ c cs. broken_letter c) (chars (text_of d))) (λ t. Ok (text t)) (broken (text_of d))
    (over_letters (λ c cs. broken_letter c) broken refl (λ c cs. mapped_past broken_byte broken_letter broken_letter_of c (encodes cs)) (text_of d) u)

-- ---- escapes, a second time
abbrev as_answer : Text → Answer
as_answer s = Ok (text s)

twice_text : (s : Text) → as_answer (escaped_once (escaped_once s)) ≡ as_answer (escaped_once s)
twice_text s = ap as_answer (once-once s)

pub once_twice : (d : Datum) → escape_once_answer d [] >>= (λ e. escape_once_answer e []) ≡ escape_once_answer d []
once_twice nil = refl
once_twice (truth b) = twice_text (text_of (truth b))
once_twice (number z) = twice_text (text_of (number z))
once_twice (text s) = twice_text s
once_twice (array ds) = twice_text (text_of (array ds))
once_twice (object ps) = twice_text (text_of (object ps))

kept_text : (s : Text) → as_answer (escaped_once (escaped_bytes s)) ≡ as_answer (escaped_bytes s)
kept_text s = ap as_answer (once-escaped s)

pub once_keeps : (d : Datum) → escape_answer d [] >>= (λ e. escape_once_answer e []) ≡ escape_answer d []
once_keeps nil = refl
once_keeps (truth b) = kept_text (text_of (truth b))
once_keeps (number z) = kept_text (text_of (number z))
once_keeps (text s) = kept_text s
once_keeps (array ds) = kept_text (text_of (array ds))
once_keeps (object ps) = kept_text (text_of (object ps))

-- ---- no tag is left in the bytes
not_sixty : (b : ℕ) → 128 ≤ b → (b == 60) ≡ false
not_sixty b h = grind (arith, nat_tests)

not_close : (b : ℕ) → 128 ≤ b → (b == 62) ≡ false
not_close b h = grind (arith, nat_tests)

high_close : (bs rest : List ℕ) → AllHigh bs → has_close (bs ++ rest) ≡ has_close rest
high_close [] rest h = refl
high_close (b ∷ bs) rest h = ap (λ t. t || has_close (bs ++ rest)) (not_close b h.0) ∙ high_close bs rest h.1

letter_close : (c : ℕ) (rest : List ℕ) → has_close (encode c ++ rest) ≡ (c == 62 || has_close rest)
letter_close c rest = ascii_or_high c
    (λ l. ap (λ t. has_close (t ++ rest)) (encode_ascii c l))
    (λ l. high_close (encode c) rest (high_bytes c l) ∙ sym (ap (λ t. t || has_close rest) (not_close c l)))

bytes_close : (cs : List ℕ) → has_close (encodes cs) ≡ has_close cs
bytes_close [] = refl
bytes_close (c ∷ cs) = letter_close c (encodes cs) ∙ ap (λ t. c == 62 || t) (bytes_close cs)

high_no_tag : (bs rest : List ℕ) → AllHigh bs → HasNoTag rest → HasNoTag (bs ++ rest)
high_no_tag [] rest h k = k
high_no_tag (b ∷ bs) rest h k = (ap (λ t. t && has_close (bs ++ rest)) (not_sixty b h.0), high_no_tag bs rest h.1 k)

bytes_no_tag : (cs : List ℕ) → HasNoTag cs → HasNoTag (encodes cs)
bytes_no_tag [] h = tt
bytes_no_tag (c ∷ cs) h = ascii_or_high c
    (λ l. subst (λ t. HasNoTag (t ++ encodes cs)) (sym (encode_ascii c l)) (ap (λ t. c == 60 && t) (bytes_close cs) ∙ h.0, bytes_no_tag cs h.1))
    (λ l. high_no_tag (encode c) (encodes cs) (high_bytes c l) (bytes_no_tag cs h.1))

pub no_tag_left : (s : Text) → IsUtf8 s → HasNoTag (strip_html s)
no_tag_left s u = bytes_no_tag (without_tags (chars s)) (nothing_left (chars s))

-- ---- a pass keeps characters, so a second run sees the same ones
either_scalars : (t : Bool) (xs ys : List ℕ) → scalars xs ≡ true → scalars ys ≡ true → scalars (if t then xs else ys) ≡ true
either_scalars true xs ys h k = h
either_scalars false xs ys h k = k

pub kept_scalars : (o e : List ℕ) (b : Bool) (k : ℕ) (s : List ℕ) → scalars s ≡ true → scalars (kept o e b k s) ≡ true
kept_scalars o e b k [] h = refl
kept_scalars o e b (suc k) (c ∷ s) h = kept_scalars o e b k s (and_parts (scalar c) (scalars s) h).1
kept_scalars o e false zero (c ∷ s) h =
    let q = and_parts (scalar c) (scalars s) h in
    either_scalars (begins_mark o (c ∷ s) && has_mark e (drop (length o) (c ∷ s))) (kept o e true (length o - 1) s) (c ∷ kept o e false 0 s) (kept_scalars o e true (length o - 1) s q.1) (and_from (scalar c) (scalars (kept o e false 0 s)) q.0 (kept_scalars o e false 0 s q.1))
kept_scalars o e true zero (c ∷ s) h =
    let q = and_parts (scalar c) (scalars s) h in
    either_scalars (begins_mark e (c ∷ s)) (kept o e false (length e - 1) s) (kept o e true 0 s) (kept_scalars o e false (length e - 1) s q.1) (kept_scalars o e true 0 s q.1)

tags_scalars : (s : List ℕ) → scalars s ≡ true → scalars (without_tags s) ≡ true
tags_scalars s h =
    let one = without_pairs (codes "<script") (codes "</script>") s in
    let two = without_pairs (codes "<style") (codes "</style>") one in
    let three = without_pairs (codes "<!--") (codes "-->") two in
    kept_scalars (codes "<") (codes ">") false 0 three (kept_scalars (codes "<!--") (codes "-->") false 0 two (kept_scalars (codes "<style") (codes "</style>") false 0 one (kept_scalars (codes "<script") (codes "</script>") false 0 s h)))

pub strip_twice : (s : Text) → IsUtf8 s → strip_html (strip_html s) ≡ strip_html s
strip_twice s u = ap (λ t. encodes (without_tags t)) (chars-encodes (without_tags (chars s)) (tags_scalars (chars s) (scalars-chars s u))) ∙ ap encodes (twice (chars s))
