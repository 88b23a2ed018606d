-- The laws of the filters over URLs.
use Rattle.std.proofs.Common.{◌≡◌, ℕ, ◌+◌, ◌*◌, ◌/◌, ◌%◌, ◌<◌, Bool, true, false, ◌&&◌, ◌==◌, ltb, List, [], ◌∷◌, All, refl, ap, subst, sym, ◌∙◌, inl, inr, ⊎_elim, arith, Result, Ok, if◌then◌else◌}
use Rattle.std.proofs.lemmas.Bool.Decides.{nat_tests}
use Rattle.std.proofs.lemmas.List.Elements.{All-append, All-from_recursion, All-nil}
use Rattle.std.specs.Char.{digit_value, is_digit}
use Rattle.std.specs.Str.{IsUtf8}
use Rattle.std.proofs.lemmas.Bool.{and_parts}
use lib.Utf8.{encode, encodes, scalar, scalars, scalar_cases}
use Rattle.percent_encoding.specs.Percent.{is_escape, percent_decode}
use Rattle.percent_encoding.proofs.PercentLemmas.{IsByte}
use Rattle.liquid_model.specs.Answer.{IsTheOne}
use Rattle.liquid_model.specs.Data.{Datum, nil, truth, number, text, array, object, text_of}
use Rattle.liquid_model.specs.Fallible.{◌>>=◌}
use Rattle.liquid_model.specs.Texts.{Text}
use Rattle.liquid_model.specs.declared.error.ErrorKind.{ErrorKind}
use Rattle.liquid_model.specs.Arguments.{Answer}
use Rattle.liquid_model.specs.Text.{Texts}
use Rattle.liquid_model.proofs.Ones.{image_one, same_one}
use Rattle.liquid_filters.specs.HtmlLaws.{Concatenates, NilOrTexts}
use Rattle.liquid_filters.specs.UrlLaws.{BeginsNoEscape, Decodes, UrlDecodes}
use Rattle.liquid_filters.specs.Urls.{plus_to_space, text_of_bytes, unescaped, url_decode_answer, url_encode_answer, url_escaped, url_escaped_byte}
use Rattle.liquid_filters.proofs.HtmlLaws.{concatenation}
use Rattle.liquid_filters.proofs.Urls.{of_bytes_text, url_round_trip}

-- ---- the bytes of a text are below 256
small_by_width : (c : ℕ) (s t u : Bool) → ltb c 128 ≡ s → ltb c 2048 ≡ t → ltb c 65536 ≡ u → c < 1114112 → All IsByte (encode c)
unfolding encode
small_by_width c true t u e f g l = let k : c < 128 = grind (arith, nat_tests) in rw e (All-from_recursion IsByte (c ∷ []) (omega arith, tt))
small_by_width c false true u e f g l = let k : c < 2048 = grind (arith, nat_tests) in rw (e, f) (All-from_recursion IsByte ((192 + c / 64) ∷ (128 + c % 64) ∷ []) (omega arith, (omega arith, tt)))
small_by_width c false false true e f g l = let k : c < 65536 = grind (arith, nat_tests) in rw (e, f, g) (All-from_recursion IsByte ((224 + c / 4096) ∷ (128 + c / 64 % 64) ∷ (128 + c % 64) ∷ []) (omega arith, (omega arith, (omega arith, tt))))
small_by_width c false false false e f g l = rw (e, f, g) (All-from_recursion IsByte ((240 + c / 262144) ∷ (128 + c / 4096 % 64) ∷ (128 + c / 64 % 64) ∷ (128 + c % 64) ∷ []) (omega arith, (omega arith, (omega arith, (omega arith, tt)))))

letter_small : (c : ℕ) → scalar c ≡ true → All IsByte (encode c)
letter_small c e = let b : c < 1114112 = ⊎_elim (λ h. omega arith) (λ h. h.1) (scalar_cases c e) in small_by_width c _ _ _ refl refl refl b

letters_small : (cs : List ℕ) → scalars cs ≡ true → All IsByte (encodes cs)
letters_small [] h = All-nil IsByte
letters_small (c ∷ cs) h = let q = and_parts (scalar c) (scalars cs) h in All-append IsByte (encode c) (encodes cs) (letter_small c q.0) (letters_small cs q.1)

text_small : (s : Text) → IsUtf8 s → All IsByte s
text_small s u = subst (All IsByte) u.1.1 (letters_small u.0 u.1.0)

abbrev as_answer : Result Text ErrorKind → Answer
as_answer r = r >>= λ t. Ok (text t)

pub undone : (s : Text) → IsUtf8 s → url_encode_answer (text s) [] >>= (λ e. url_decode_answer e []) ≡ Ok (text s)
undone s u = ap (λ bs. as_answer (text_of_bytes bs)) (url_round_trip s (text_small s u)) ∙ ap as_answer (of_bytes_text s s u refl)

-- ---- encoding, byte by byte
encoded : (s : Text) → IsTheOne (Texts (Concatenates (λ b bs. url_escaped_byte b) s)) (Ok (text (url_escaped s)))
encoded s = image_one (Concatenates (λ b bs. url_escaped_byte b) s) (λ t. Ok (text t)) (url_escaped s) (concatenation (λ b bs. url_escaped_byte b) url_escaped refl (λ b bs. refl) s)

pub url_encode_one : (d : Datum) (args : List Datum) → IsTheOne (NilOrTexts (Concatenates (λ b bs. url_escaped_byte b)) d) (url_encode_answer d args)
url_encode_one nil args = same_one (Ok nil)
url_encode_one (truth b) args = encoded (text_of (truth b))
url_encode_one (number z) args = encoded (text_of (number z))
url_encode_one (text s) args = encoded s
url_encode_one (array ds) args = encoded (text_of (array ds))
url_encode_one (object ps) args = encoded (text_of (object ps))

-- ---- decoding: the spaces first change no escape
abbrev plus : ℕ → ℕ
plus b = if b == 43 then 32 else b

digit_at : (h : ℕ) (t : Bool) → (h == 43) ≡ t → is_digit (if t then 32 else h) 16 ≡ is_digit h 16
digit_at h true e = let k : h ≡ 43 = grind (arith, nat_tests) in sym (ap (λ x. is_digit x 16) k)
digit_at h false e = refl

plus_digit : (h : ℕ) → is_digit (plus h) 16 ≡ is_digit h 16
plus_digit h = digit_at h (h == 43) refl

percent_at : (b : ℕ) (t : Bool) → (b == 43) ≡ t → ((if t then 32 else b) == 37) ≡ (b == 37)
percent_at b true e = let k : b ≡ 43 = grind (arith, nat_tests) in sym (ap (λ x. x == 37) k)
percent_at b false e = refl

plus_percent : (b : ℕ) → (plus b == 37) ≡ (b == 37)
plus_percent b = percent_at b (b == 43) refl

value_at : (h : ℕ) (t : Bool) → (h == 43) ≡ t → is_digit h 16 ≡ true → (if t then 32 else h) ≡ h
value_at h true e d = let k : h ≡ 43 = grind (arith, nat_tests) in let f : is_digit h 16 ≡ false = ap (λ x. is_digit x 16) k in let u : ⊥ = cc in absurd u
value_at h false e d = refl

plus_value : (h : ℕ) → is_digit h 16 ≡ true → plus h ≡ h
plus_value h d = value_at h (h == 43) refl d

escape_same : (b h l : ℕ) → is_escape (plus b) (plus h) (plus l) ≡ is_escape b h l
escape_same b h l =
    ap (λ t. t && is_digit (plus h) 16 && is_digit (plus l) 16) (plus_percent b)
    ∙ ap (λ t. b == 37 && t && is_digit (plus l) 16) (plus_digit h)
    ∙ ap (λ t. b == 37 && is_digit h 16 && t) (plus_digit l)

escape_read : (h l : ℕ) (r : Text) → (is_digit h 16 && is_digit l 16) ≡ true → unescaped (37 ∷ h ∷ l ∷ r) ≡ (16 * digit_value h + digit_value l) ∷ unescaped r
unfolding percent_decode
escape_read h l r q =
    let p = and_parts (is_digit h 16) (is_digit l 16) q in
    ap (λ t. if t then (16 * digit_value (plus h) + digit_value (plus l)) ∷ percent_decode (plus_to_space r) else 37 ∷ percent_decode (plus h ∷ plus l ∷ plus_to_space r)) (escape_same 37 h l ∙ q)
    ∙ ap (λ x. (16 * digit_value x + digit_value (plus l)) ∷ percent_decode (plus_to_space r)) (plus_value h p.0)
    ∙ ap (λ x. (16 * digit_value h + digit_value x) ∷ percent_decode (plus_to_space r)) (plus_value l p.1)

no_escape_at : (c h l : ℕ) (r : Text) (t : Bool) → (c == 37) ≡ t → BeginsNoEscape (c ∷ h ∷ l ∷ r) → (t && is_digit h 16 && is_digit l 16) ≡ false
no_escape_at c h l r true e n = let k : c ≡ 37 = grind (arith, nat_tests) in n h l r (ap (λ x. x ∷ h ∷ l ∷ r) k)
no_escape_at c h l r false e n = refl

byte_read : (c : ℕ) (r : Text) → BeginsNoEscape (c ∷ r) → unescaped (c ∷ r) ≡ plus c ∷ unescaped r
unfolding percent_decode
byte_read c [] n = refl
byte_read c (h ∷ []) n = refl
byte_read c (h ∷ l ∷ r) n =
    ap (λ t. if t then (16 * digit_value (plus h) + digit_value (plus l)) ∷ percent_decode (plus_to_space r) else plus c ∷ percent_decode (plus h ∷ plus l ∷ plus_to_space r)) (escape_same c h l ∙ no_escape_at c h l r (c == 37) refl n)

decodes_is : (bs : List ℕ) (s : Text) → Decodes s bs → bs ≡ unescaped s
unfolding percent_decode
decodes_is [] s h = sym (ap unescaped h)
decodes_is (b ∷ bs) s h = ⊎_elim
    (λ k. ap (λ x. x ∷ bs) k.5 ∙ ap (λ t. (16 * digit_value k.0 + digit_value k.1) ∷ t) (decodes_is bs k.2 k.6) ∙ sym (escape_read k.0 k.1 k.2 k.4) ∙ ap unescaped (sym k.3))
    (λ k. ap (λ x. x ∷ bs) k.4 ∙ ap (λ t. plus k.0 ∷ t) (decodes_is bs k.1 k.5) ∙ sym (byte_read k.0 k.1 (subst BeginsNoEscape k.2 k.3)) ∙ ap unescaped (sym k.2))
    h

one_no_escape : (c : ℕ) → BeginsNoEscape (c ∷ [])
one_no_escape c = λ high low rest e. let u : ⊥ = cc in absurd u

two_no_escape : (c h : ℕ) → BeginsNoEscape (c ∷ h ∷ [])
two_no_escape c h = λ high low rest e. let u : ⊥ = cc in absurd u

three_no_escape : (c h l : ℕ) (r : Text) → is_escape c h l ≡ false → BeginsNoEscape (c ∷ h ∷ l ∷ r)
three_no_escape c h l r f = λ high low rest e.
    let a : c ≡ 37 = cc in let b : h ≡ high = cc in let d : l ≡ low = cc in
    ap (λ x. is_digit x 16 && is_digit low 16) (sym b) ∙ ap (λ x. is_digit h 16 && is_digit x 16) (sym d) ∙ sym (ap (λ x. is_escape x h l) a) ∙ f

sign_of : (c h l : ℕ) (t : Bool) → (c == 37) ≡ t → (t && is_digit h 16 && is_digit l 16) ≡ true → (c ≡ 37) × ((is_digit h 16 && is_digit l 16) ≡ true)
sign_of c h l true e f = (grind (arith, nat_tests), f)
sign_of c h l false e f = let u : ⊥ = cc in absurd u

meets_at : (c h l : ℕ) (r : Text) (t : Bool) → is_escape c h l ≡ t → Decodes r (unescaped r) → Decodes (h ∷ l ∷ r) (unescaped (h ∷ l ∷ r)) → Decodes (c ∷ h ∷ l ∷ r) (unescaped (c ∷ h ∷ l ∷ r))
meets_at c h l r true e past next =
    let q = sign_of c h l (c == 37) refl e in
    let s : c ∷ h ∷ l ∷ r ≡ 37 ∷ h ∷ l ∷ r = ap (λ x. x ∷ h ∷ l ∷ r) q.0 in
    subst (Decodes (c ∷ h ∷ l ∷ r)) (sym (ap unescaped s ∙ escape_read h l r q.1)) (inl (h, l, r, s, q.1, refl, past))
meets_at c h l r false e past next =
    let n = three_no_escape c h l r e in
    subst (Decodes (c ∷ h ∷ l ∷ r)) (sym (byte_read c (h ∷ l ∷ r) n)) (inr (c, h ∷ l ∷ r, refl, n, refl, next))

decodes_meets : (s : Text) → Decodes s (unescaped s)
unfolding percent_decode
decodes_meets [] = refl
decodes_meets (c ∷ []) = inr (c, [], refl, one_no_escape c, refl, refl)
decodes_meets (c ∷ h ∷ []) = inr (c, h ∷ [], refl, two_no_escape c h, refl, decodes_meets (h ∷ []))
decodes_meets (c ∷ h ∷ l ∷ r) = meets_at c h l r (is_escape c h l) refl (decodes_meets r) (decodes_meets (h ∷ l ∷ r))

decoded : (s : Text) → IsTheOne (Decodes s) (unescaped s)
decoded s = λ bs. (decodes_is bs s, λ e. subst (Decodes s) (sym e) (decodes_meets s))

answered : (d : Datum) → IsTheOne (λ a. (bs : List ℕ) × (a ≡ as_answer (text_of_bytes bs)) × Decodes (text_of d) bs) (as_answer (text_of_bytes (unescaped (text_of d))))
answered d = image_one (Decodes (text_of d)) (λ bs. as_answer (text_of_bytes bs)) (unescaped (text_of d)) (decoded (text_of d))

pub url_decode_one : (d : Datum) (args : List Datum) → IsTheOne (UrlDecodes d) (url_decode_answer d args)
url_decode_one nil args = same_one (Ok nil)
url_decode_one (truth b) args = answered (truth b)
url_decode_one (number z) args = answered (number z)
url_decode_one (text s) args = answered (text s)
url_decode_one (array ds) args = answered (array ds)
url_decode_one (object ps) args = answered (object ps)
