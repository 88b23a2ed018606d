-- The set of url_escaped bytes, byte by byte, and the round trip.
use Rattle.std.proofs.Common.{◌≡◌, ℕ, zero, suc, ◌<◌, Bool, true, false, not, cond, List, [], ◌∷◌, ◌++◌, ap, refl, sym, ◌∙◌, arith, All, subst, ◌==◌, if◌then◌else◌, Ok, Err}
use borrow.Author.Count.{below_more}
use Rattle.std.specs.List.{flat_map}
use Rattle.percent_encoding.specs.AsciiSet.{should_percent_encode}
use Rattle.percent_encoding.specs.Percent.{percent_encode, percent_encode_byte, encode_byte, percent_decode}
use Rattle.percent_encoding.proofs.PercentLemmas.{round_trip, IsByte, IsEscapeByte, All-percent_encode}
use Rattle.std.proofs.lemmas.List.Elements.{All-head, All-tail}
use Rattle.liquid_filters.specs.Urls.{text_of_bytes, is_kept, url_escaped, unescaped, plus_to_space}
use Rattle.std.proofs.lemmas.Bool.Decides.{nat_tests}
use Rattle.std.specs.Str.{IsUtf8, is_utf8}
use Rattle.std.proofs.lemmas.Str.{IsUtf8-from_is_utf8, is_utf8-from_IsUtf8}
use Rattle.liquid_model.specs.declared.error.ErrorKind.TheVariants.{InvalidInput}
use Rattle.liquid_filters.specs.declared.stdlib.filters.url.TheConstants.{ESCAPED}

abbrev same_bool : Bool → Bool → Bool
same_bool true b = b
same_bool false b = not b

same_bool_is : (a b : Bool) → same_bool a b ≡ true → a ≡ b
same_bool_is true b h = sym h
same_bool_is false true h = cc
same_bool_is false false h = refl

abbrev agrees : ℕ → Bool
agrees zero = true
agrees (suc n) = cond (same_bool (should_percent_encode ESCAPED n) (not (is_kept n))) (agrees n) false

agrees_all : agrees 256 ≡ true
unfolding should_percent_encode
agrees_all = refl

cond_parts : (s t : Bool) → cond s t false ≡ true → (s ≡ true) × (t ≡ true)
cond_parts true t h = (refl, h)
cond_parts false t h = cc

agrees_at : (n b : ℕ) → agrees n ≡ true → b < n → should_percent_encode ESCAPED b ≡ not (is_kept b)
agrees_at zero b h l = absurd (omega arith)
agrees_at (suc n) b h l =
    let p = cond_parts (same_bool (should_percent_encode ESCAPED n) (not (is_kept n))) (agrees n) h in
    below_more (λ k. should_percent_encode ESCAPED k ≡ not (is_kept k)) n (λ k. agrees_at n k p.1) (same_bool_is (should_percent_encode ESCAPED n) (not (is_kept n)) p.0) b (omega arith)

if_not : (t s : Bool) (x y : List ℕ) → s ≡ not t → (if s then x else y) ≡ (if t then y else x)
if_not true s x y h = ap (λ b. if b then x else y) h
if_not false s x y h = ap (λ b. if b then x else y) h

pub escaped_is : (bs : List ℕ) → All IsByte bs → percent_encode ESCAPED bs ≡ url_escaped bs
unfolding percent_encode
escaped_is [] h = refl
escaped_is (b ∷ bs) h =
    ap (λ t. t ++ flat_map (encode_byte ESCAPED) bs) (if_not (is_kept b) (should_percent_encode ESCAPED b) (percent_encode_byte b) (b ∷ []) (agrees_at 256 b agrees_all (All-head IsByte b bs h)))
    ∙ ap (λ t. (if is_kept b then b ∷ [] else percent_encode_byte b) ++ t) (escaped_is bs (All-tail IsByte b bs h))

false_not_true : true ≡ false → ⊥
false_not_true h = cc

abbrev NoPlus : ℕ → Type 0
NoPlus b = b ≡ 43 → ⊥

kept_no_plus : (b : ℕ) → should_percent_encode ESCAPED b ≡ false → NoPlus b
unfolding should_percent_encode
kept_no_plus b k e = let h : should_percent_encode ESCAPED 43 ≡ false = subst (λ n. should_percent_encode ESCAPED n ≡ false) e k in absurd (false_not_true h)

escape_no_plus : (b : ℕ) → IsEscapeByte b → NoPlus b
escape_no_plus b i e = grind arith

not_plus : (b : ℕ) → NoPlus b → (if b == 43 then 32 else b) ≡ b
not_plus b h = grind (arith, nat_tests)

plus_kept : (bs : List ℕ) → All NoPlus bs → plus_to_space bs ≡ bs
plus_kept [] h = refl
plus_kept (b ∷ bs) h = ap (λ t. t ∷ plus_to_space bs) (not_plus b (All-head NoPlus b bs h)) ∙ ap (λ t. b ∷ t) (plus_kept bs (All-tail NoPlus b bs h))

-- the round trip
pub url_round_trip : (bs : List ℕ) → All IsByte bs → unescaped (url_escaped bs) ≡ bs
url_round_trip bs h =
    let e = escaped_is bs h in
    let p : plus_to_space (url_escaped bs) ≡ url_escaped bs = plus_kept (url_escaped bs) (subst (All NoPlus) e (All-percent_encode NoPlus ESCAPED bs kept_no_plus escape_no_plus)) in
    ap percent_decode p ∙ ap percent_decode (sym e) ∙ round_trip ESCAPED bs refl h

pub of_bytes_text : (bs s : List ℕ) → IsUtf8 bs → s ≡ bs → text_of_bytes bs ≡ Ok s
of_bytes_text bs s h e = ap (λ t. if t then Ok bs else Err InvalidInput) (is_utf8-from_IsUtf8 bs h) ∙ ap Ok (sym e)

not_test : (bs : List ℕ) (t : Bool) → is_utf8 bs ≡ t → (IsUtf8 bs → ⊥) → (if t then Ok bs else Err InvalidInput) ≡ Err InvalidInput
not_test bs true e h = absurd (h (IsUtf8-from_is_utf8 bs e))
not_test bs false e h = refl

pub of_bytes_not : (bs : List ℕ) → (IsUtf8 bs → ⊥) → text_of_bytes bs ≡ Err InvalidInput
of_bytes_not bs h = not_test bs (is_utf8 bs) refl h
