-- A text for scripts has the tokens of the text that it stands for.
use Rattle.std.proofs.Common.{◌≡◌, ℕ, ℤ, pos, negsuc, zero, suc, ◌^◌, ◌<◌, ◌≤◌, Bool, true, false, cond, ◌&&◌, ◌==◌, ◌||◌, List, [], ◌∷◌, ◌++◌, length, get_or, decimal, Some, inl, inr, ◌⊎◌, refl, sym, ap, ap₂, ◌∙◌, subst, arith, append_assoc}
use Rattle.std.proofs.lemmas.Bool.{cases_eq, cases_lt, ne_eqb, le-ltb}
use Rattle.std.proofs.lemmas.Fmt.{decimal_is_IsNumeral}
use Rattle.std.proofs.lemmas.Grind.{flat_map-append}
use Rattle.std.proofs.lemmas.Str.Parse.{digit_at}
use Rattle.std.specs.Fmt.{signed_decimal}
use Rattle.std.specs.Prelude.{⊤}
use lib.Signed.{mag}
use lib.Utf8.{encode}
use Rattle.json.specs.Token.{Token, begin_object, end_object, begin_array, end_array, key, string, number, boolean, null, bad}
use Rattle.json.specs.Text.{content, plain, prepend, code_unit, short_escape}
use Rattle.json.specs.Word.{ends_word, is_operator, is_space, word}
use Rattle.json.specs.Lex.{Lexeme, Mode, token, comma, colon, string_token, lex, lex_byte, between, in_string, operator, space, other, punctuate, fresh, tokens}
use Rattle.json.specs.Print.{escape_byte, escape, quoted, token_text, begins, ends, separator, print_from, print, IsPrintable, ArePrintable}
use Rattle.json.proofs.Printed.Numbers.{lex-number, in_word-ended}
use Rattle.json.proofs.Printed.Strings.{content-escape, escape_byte_plain, lex-escape}
use Rattle.liquid_json.specs.ScriptTexts.{for_script, script_byte}

-- ---- what both readers make of a byte of a string, before any text

abbrev Passes : ℕ → Type 0
Passes x = ((r : List ℕ) → content plain (for_script (escape_byte x) ++ r) ≡ prepend (x ∷ []) (content plain r)) × ((r : List ℕ) → lex in_string (for_script (escape_byte x) ++ r) ≡ lex in_string r)

-- P holds below n, counted down from the top
abbrev Each : (ℕ → Type 0) → ℕ → Type 0
Each P zero = Unit {0}
Each P (suc n) = P n × Each P n

each_sound : (P : ℕ → Type 0) (n : ℕ) → Each P n → (x : ℕ) → x < n → P x
each_sound P zero h x lt = absurd (omega arith)
each_sound P (suc n) h x lt = go (each_sound P n h.1 x) (cases_eq x n)
  where
    go : (x < n → P x) → (x ≡ n) ⊎ (x ≡ n → ⊥) → P x
    go below (inl e) = subst P (sym e) h.0
    go below (inr ne) = below (omega arith)

controls : Each Passes 32
unfolding escape_byte content lex code_unit short_escape encode
controls = ((λ r. refl, λ r. refl), ((λ r. refl, λ r. refl), ((λ r. refl, λ r. refl), ((λ r. refl, λ r. refl), ((λ r. refl, λ r. refl), ((λ r. refl, λ r. refl), ((λ r. refl, λ r. refl), ((λ r. refl, λ r. refl), ((λ r. refl, λ r. refl), ((λ r. refl, λ r. refl), ((λ r. refl, λ r. refl), ((λ r. refl, λ r. refl), ((λ r. refl, λ r. refl), ((λ r. refl, λ r. refl), ((λ r. refl, λ r. refl), ((λ r. refl, λ r. refl), ((λ r. refl, λ r. refl), ((λ r. refl, λ r. refl), ((λ r. refl, λ r. refl), ((λ r. refl, λ r. refl), ((λ r. refl, λ r. refl), ((λ r. refl, λ r. refl), ((λ r. refl, λ r. refl), ((λ r. refl, λ r. refl), ((λ r. refl, λ r. refl), ((λ r. refl, λ r. refl), ((λ r. refl, λ r. refl), ((λ r. refl, λ r. refl), ((λ r. refl, λ r. refl), ((λ r. refl, λ r. refl), ((λ r. refl, λ r. refl), ((λ r. refl, λ r. refl), tt))))))))))))))))))))))))))))))))

quote_passes : Passes 34
unfolding escape_byte content lex short_escape
quote_passes = (λ r. refl, λ r. refl)

backslash_passes : Passes 92
unfolding escape_byte content lex short_escape
backslash_passes = (λ r. refl, λ r. refl)

-- the marks
less_passes : Passes 60
unfolding escape_byte content lex code_unit encode
less_passes = (λ r. refl, λ r. refl)

greater_passes : Passes 62
unfolding escape_byte content lex code_unit encode
greater_passes = (λ r. refl, λ r. refl)

and_passes : Passes 38
unfolding escape_byte content lex code_unit encode
and_passes = (λ r. refl, λ r. refl)

stays_inside : (o s : Bool) (x : ℕ) (r : List ℕ) (k : Mode → List Lexeme) → lex_byte in_string (cond o operator (cond s space other)) x r k ≡ k in_string
stays_inside true s x r k = refl
stays_inside false true x r k = refl
stays_inside false false x r k = refl

unmarked : (x : ℕ) → (x ≡ 60 → ⊥) → (x ≡ 62 → ⊥) → (x ≡ 38 → ⊥) → script_byte x ≡ x ∷ []
unmarked x l g a = rw (ne_eqb x 60 l, ne_eqb x 62 g, ne_eqb x 38 a) refl

plain_passes : (x : ℕ) → (x ≡ 34 → ⊥) → (x ≡ 92 → ⊥) → 32 ≤ x → for_script (x ∷ []) ≡ x ∷ [] → Passes x
unfolding content lex
plain_passes x q b l kept =
    let same : for_script (escape_byte x) ≡ x ∷ [] = ap for_script (escape_byte_plain x q b l) ∙ kept in (
      λ r. rw (same, ne_eqb x 34 q, ne_eqb x 92 b, le-ltb x 32 l) refl,
      λ r. rw (same, ne_eqb x 34 q, ne_eqb x 92 b) (stays_inside (is_operator x) (is_space x) x r (λ m. lex m r)),
    )

passes : (x : ℕ) → Passes x
passes x = low (cases_lt x 32)
  where
    marked : (x ≡ 60) ⊎ (x ≡ 60 → ⊥) → (x ≡ 62) ⊎ (x ≡ 62 → ⊥) → (x ≡ 38) ⊎ (x ≡ 38 → ⊥) → (x ≡ 34 → ⊥) → (x ≡ 92 → ⊥) → 32 ≤ x → Passes x
    marked (inl e) g a q b l = subst Passes (sym e) less_passes
    marked (inr f) (inl e) a q b l = subst Passes (sym e) greater_passes
    marked (inr f) (inr g) (inl e) q b l = subst Passes (sym e) and_passes
    marked (inr f) (inr g) (inr a) q b l = plain_passes x q b l (rw (unmarked x f g a) refl)

    high : (x ≡ 34) ⊎ (x ≡ 34 → ⊥) → (x ≡ 92) ⊎ (x ≡ 92 → ⊥) → 32 ≤ x → Passes x
    high (inl e) b l = subst Passes (sym e) quote_passes
    high (inr q) (inl e) l = subst Passes (sym e) backslash_passes
    high (inr q) (inr b) l = marked (cases_eq x 60) (cases_eq x 62) (cases_eq x 38) q b l

    low : (x < 32) ⊎ (32 ≤ x) → Passes x
    low (inl l) = each_sound Passes 32 controls x l
    low (inr l) = high (cases_eq x 34) (cases_eq x 92) l

-- ---- strings

byte_first : (x : ℕ) (s r : List ℕ) → for_script (escape (x ∷ s)) ++ r ≡ for_script (escape_byte x) ++ (for_script (escape s) ++ r)
byte_first x s r = ap (λ l. l ++ r) (flat_map-append script_byte (escape_byte x) (escape s)) ∙ append_assoc (for_script (escape_byte x)) _ r

content_back : (s r : List ℕ) → content plain (for_script (escape s) ++ 34 ∷ r) ≡ Some s
unfolding content
content_back [] r = refl
content_back (x ∷ s) r =
    ap (content plain) (byte_first x s (34 ∷ r)) ∙ (passes x).0 _ ∙ ap (prepend (x ∷ [])) (content_back s r)

lex_back : (s r : List ℕ) → lex in_string (for_script (escape s) ++ 34 ∷ r) ≡ lex between r
unfolding lex
lex_back [] r = refl
lex_back (x ∷ s) r = ap (lex in_string) (byte_first x s (34 ∷ r)) ∙ (passes x).1 _ ∙ lex_back s r

string_back : (s r : List ℕ) → lex between (for_script (quoted s) ++ r) ≡ token (string s) ∷ lex between r
unfolding lex
string_back s r =
    let e = ap (λ l. l ++ r) (flat_map-append script_byte (escape s) (34 ∷ [])) ∙ append_assoc (for_script (escape s)) (34 ∷ []) r in
    ap (λ l. lex between (34 ∷ l)) e ∙ ap₂ (λ o l. token (string_token o) ∷ l) (content_back s r) (lex_back s r)

string_alone : (s r : List ℕ) → lex between (quoted s ++ r) ≡ token (string s) ∷ lex between r
unfolding lex
string_alone s r =
    let e = append_assoc (escape s) (34 ∷ []) r in
    ap (λ l. lex between (34 ∷ l)) e ∙ ap₂ (λ o l. token (string_token o) ∷ l) (content-escape s r) (lex-escape s r)

-- ---- numbers

spared_digits : (ds : List ℕ) → ((i : ℕ) → i < length ds → (48 ≤ get_or ds i 0) × (get_or ds i 0 ≤ 57)) → for_script ds ≡ ds
spared_digits [] h = refl
spared_digits (d ∷ ds) h =
    let first = h 0 (omega arith) in
    ap₂ (λ (a b : List ℕ). a ++ b) (unmarked d (λ e. omega arith) (λ e. omega arith) (λ e. omega arith)) (spared_digits ds (λ i l. h (suc i) (omega arith)))

spared_decimal : (n : ℕ) → n < 2 ^ 64 → for_script (decimal n) ≡ decimal n
spared_decimal n h = spared_digits (decimal n) (λ i l. digit_at _ i (decimal_is_IsNumeral n h).0.1 l)

pub spared_number : (z : ℤ) → mag z < 2 ^ 63 → for_script (signed_decimal z) ≡ signed_decimal z
spared_number (pos n) h = spared_decimal n (omega arith)
spared_number (negsuc n) h = ap (λ l. 45 ∷ l) (spared_decimal (suc n) (omega arith))

-- ---- tokens

-- a number's text has no mark
abbrev pub IsSpared : Token → Type 0
IsSpared begin_object = ⊤
IsSpared end_object = ⊤
IsSpared begin_array = ⊤
IsSpared end_array = ⊤
IsSpared (key s) = ⊤
IsSpared (string s) = ⊤
IsSpared (number s) = for_script s ≡ s
IsSpared (boolean b) = ⊤
IsSpared null = ⊤
IsSpared bad = ⊤

abbrev pub AreSpared : List Token → Type 0
AreSpared [] = ⊤
AreSpared (t ∷ ts) = IsSpared t × AreSpared ts

pub are_spared-append : (ts us : List Token) → AreSpared ts → AreSpared us → AreSpared (ts ++ us)
are_spared-append [] us h k = k
are_spared-append (t ∷ ts) us h k = (h.0, are_spared-append ts us h.1 k)

-- after a value stands a comma, a closing bracket or nothing
value_ends : (ts : List Token) → (ends_word (print_from true ts) ≡ true) × (ends_word (for_script (print_from true ts)) ≡ true)
unfolding print_from
value_ends [] = (refl, refl)
value_ends (begin_object ∷ ts) = (refl, refl)
value_ends (end_object ∷ ts) = (refl, refl)
value_ends (begin_array ∷ ts) = (refl, refl)
value_ends (end_array ∷ ts) = (refl, refl)
value_ends (key s ∷ ts) = (refl, refl)
value_ends (string s ∷ ts) = (refl, refl)
value_ends (number s ∷ ts) = (refl, refl)
value_ends (boolean b ∷ ts) = (refl, refl)
value_ends (null ∷ ts) = (refl, refl)
value_ends (bad ∷ ts) = (refl, refl)

abbrev BothEnd : Bool → List ℕ → List ℕ → Type 0
BothEnd b l r = b ≡ true → (ends_word r ≡ true) × (ends_word l ≡ true)

-- l is the text for scripts after the token, r the other
token_back : (t : Token) (l r : List ℕ) → IsPrintable t → IsSpared t → BothEnd (ends t) l r → lex between l ≡ lex between r → lex between (for_script (token_text t) ++ l) ≡ lex between (token_text t ++ r)
unfolding lex word
token_back begin_object l r h k ended e = ap (λ m. token begin_object ∷ m) e
token_back end_object l r h k ended e = ap (λ m. token end_object ∷ m) e
token_back begin_array l r h k ended e = ap (λ m. token begin_array ∷ m) e
token_back end_array l r h k ended e = ap (λ m. token end_array ∷ m) e
token_back (key s) l r h k ended e =
    ap (λ m. lex between (m ++ l)) (flat_map-append script_byte (quoted s) (58 ∷ [])) ∙ ap (lex between) (append_assoc (for_script (quoted s)) (58 ∷ []) l) ∙ string_back s (58 ∷ l)
    ∙ ap (λ m. token (string s) ∷ colon ∷ m) e
    ∙ sym (ap (lex between) (append_assoc (quoted s) (58 ∷ []) r) ∙ string_alone s (58 ∷ r))
token_back (string s) l r h k ended e = string_back s l ∙ ap (λ m. token (string s) ∷ m) e ∙ sym (string_alone s r)
token_back (number s) l r h k ended e =
    ap (λ m. lex between (m ++ l)) k ∙ lex-number s l h (ended refl).1 ∙ ap (λ m. token (number s) ∷ m) e ∙ sym (lex-number s r h (ended refl).0)
token_back (boolean true) l r h k ended e =
    let f = ended refl in
    ap₂ (λ b m. token (cond b (boolean true) bad) ∷ m) (f.1 ∙ sym f.0) (in_word-ended l f.1 ∙ e ∙ sym (in_word-ended r f.0))
token_back (boolean false) l r h k ended e =
    let f = ended refl in
    ap₂ (λ b m. token (cond b (boolean false) bad) ∷ m) (f.1 ∙ sym f.0) (in_word-ended l f.1 ∙ e ∙ sym (in_word-ended r f.0))
token_back null l r h k ended e =
    let f = ended refl in
    ap₂ (λ b m. token (cond b null bad) ∷ m) (f.1 ∙ sym f.0) (in_word-ended l f.1 ∙ e ∙ sym (in_word-ended r f.0))
token_back bad l r h k ended e = absurd h

separated : (b : Bool) (l r : List ℕ) → lex between l ≡ lex between r → lex between (for_script (cond b (44 ∷ []) []) ++ l) ≡ lex between (cond b (44 ∷ []) [] ++ r)
unfolding lex
separated true l r e = ap (λ m. comma ∷ m) e
separated false l r e = e

three : (a b c : List ℕ) → for_script (a ++ (b ++ c)) ≡ for_script a ++ (for_script b ++ for_script c)
three a b c = flat_map-append script_byte a (b ++ c) ∙ ap (λ l. for_script a ++ l) (flat_map-append script_byte b c)

both_end : (b : Bool) (ts : List Token) → BothEnd b (for_script (print_from b ts)) (print_from b ts)
both_end b ts e = subst (λ c. (ends_word (print_from c ts) ≡ true) × (ends_word (for_script (print_from c ts)) ≡ true)) (sym e) (value_ends ts)

lexed_back : (c : Bool) (ts : List Token) → ArePrintable ts → AreSpared ts → lex between (for_script (print_from c ts)) ≡ lex between (print_from c ts)
unfolding lex print_from ArePrintable
lexed_back c [] h k = refl
lexed_back c (t ∷ ts) h k =
    let l = for_script (print_from (ends t) ts) in
    let r = print_from (ends t) ts in
    ap (lex between) (three (separator c t) (token_text t) r)
    ∙ separated (c && begins t) (for_script (token_text t) ++ l) (token_text t ++ r)
    (token_back t l r h.0 k.0 (both_end (ends t) ts) (lexed_back (ends t) ts h.1 k.1))

pub script_tokens : (ts : List Token) → ArePrintable ts → AreSpared ts → tokens (for_script (print ts)) ≡ tokens (print ts)
script_tokens ts h k = ap (punctuate fresh) (lexed_back false ts h k)
