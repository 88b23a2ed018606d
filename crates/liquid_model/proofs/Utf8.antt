-- The text of every value is UTF-8.
use Rattle.std.proofs.Common.{ℕ, zero, suc, ◌+◌, ◌/◌, ◌%◌, ◌<◌, ◌==◌, ℤ, pos, negsuc, List, [], ◌∷◌, ◌++◌, map, Bool, true, false, cond, String, Global, string_bytes, sym, subst, arith}
use Rattle.std.specs.Prelude.{codes}
use Rattle.std.specs.Fmt.{digit_glyph, digits_onto, digits, decimal, signed_decimal}
use Rattle.std.specs.Str.{IsAscii, IsUtf8}
use Rattle.std.proofs.lemmas.Str.{IsUtf8-append, IsUtf8-from_ascii, IsUtf8-nil, IsUtf8-string_bytes}
use Rattle.std.proofs.lemmas.Str.Ascii.{IsAscii-cons}
use Rattle.liquid_model.specs.Data.{Datum, truth, text_of, items_text, pairs_text}
use Rattle.liquid_model.specs.View.{view, view_step, items_view, pairs_view}
use Rattle.liquid_model.specs.declared.value.Value.{Value}
use Rattle.liquid_model.specs.declared.value.Value.TheFolds.{ind-Value, map-Value, fold-roll-Value}
use Rattle.liquid_model.specs.declared.value.Value.TheViews.{roll-Value}
use Rattle.liquid_model.specs.declared.value.Value.TheOpen.{Value-F}

-- ---- numbers

ascii_nil : IsAscii []
ascii_nil i = omega arith

glyph_by : (b : Bool) (d : ℕ) → d < 10 → cond b (48 + d) (87 + d) < 128
glyph_by true d h = omega arith
glyph_by false d h = omega arith

glyph_ascii : (n : ℕ) → digit_glyph false (n % 10) < 128
glyph_ascii n = glyph_by _ (n % 10) (omega arith)

onto_by : (b : Bool) (xs ys : List ℕ) → IsAscii xs → IsAscii ys → IsAscii (cond b xs ys)
onto_by true xs ys a c = a
onto_by false xs ys a c = c

digits_ascii : (k n : ℕ) (bs : List ℕ) → IsAscii bs → IsAscii (digits_onto k 10 false n bs)
digits_ascii zero n bs a = a
digits_ascii (suc k) n bs a =
    let glyphs = IsAscii-cons (digit_glyph false (n % 10)) bs (glyph_ascii n) a in
    onto_by (n / 10 == 0) _ _ glyphs (digits_ascii k (n / 10) (digit_glyph false (n % 10) ∷ bs) glyphs)

decimal_ascii : (n : ℕ) → IsAscii (decimal n)
unfolding digits
decimal_ascii n = digits_ascii 64 n [] ascii_nil

signed_ascii : (z : ℤ) → IsAscii (signed_decimal z)
signed_ascii (pos n) = decimal_ascii n
signed_ascii (negsuc n) = IsAscii-cons 45 (decimal (suc n)) (omega arith) (decimal_ascii (suc n))

truth_ascii : (b : Bool) → IsAscii (text_of (truth b))
truth_ascii true = IsAscii-cons 116 (codes "rue") (omega arith) (IsAscii-cons 114 (codes "ue") (omega arith) (IsAscii-cons 117 (codes "e") (omega arith) (IsAscii-cons 101 [] (omega arith) ascii_nil)))
truth_ascii false =
    IsAscii-cons 102 (codes "alse") (omega arith) (IsAscii-cons 97 (codes "lse") (omega arith)
    (IsAscii-cons 108 (codes "se") (omega arith) (IsAscii-cons 115 (codes "e") (omega arith) (IsAscii-cons 101 [] (omega arith) ascii_nil))))

-- ---- values

HasText : Value → Type 0
HasText v = IsUtf8 (text_of (view v))

-- the items of a list, and the pairs of a map, each with a proof beside its value
items_utf8 : (vs : List ((v : Value) × HasText v)) → IsUtf8 (items_text (items_view (map (λ e. e.0) vs)))
unfolding HasText
items_utf8 [] = IsUtf8-nil
items_utf8 (v ∷ vs) = IsUtf8-append (text_of (view v.0)) _ v.1 (items_utf8 vs)

pairs_utf8 : (ms : List (String Global × ((v : Value) × HasText v))) → IsUtf8 (pairs_text (pairs_view (map (λ m. (m.0, m.1.0)) ms)))
unfolding HasText
pairs_utf8 [] = IsUtf8-nil
pairs_utf8 (m ∷ ms) = IsUtf8-append (string_bytes m.0 ++ text_of (view m.1.0)) _ (IsUtf8-append (string_bytes m.0) (text_of (view m.1.0)) (IsUtf8-string_bytes m.0) m.1.1) (pairs_utf8 ms)

-- what holds of one level holds of the value
held : (x : Value-F Value) → IsUtf8 (text_of (view_step (map-Value _ _ view x))) → HasText (roll-Value x)
unfolding HasText
held x h = subst (λ d. IsUtf8 (text_of d)) (sym (fold-roll-Value Datum view_step x)) h

rolled : (y : Value-F ((v : Value) × HasText v)) → HasText (roll-Value (map-Value _ _ (λ e. e.0) y))
rolled Value-F.Nil = held _ IsUtf8-nil
rolled (Value-F.Bool b) = held _ (IsUtf8-from_ascii (text_of (truth b)) (truth_ascii b))
rolled (Value-F.Integer z) = held _ (IsUtf8-from_ascii (signed_decimal z) (signed_ascii z))
rolled (Value-F.Text s) = held _ (IsUtf8-string_bytes s)
rolled (Value-F.Array v) = held _ (items_utf8 v.items)
rolled (Value-F.Object m) = held _ (pairs_utf8 m.entries)

pub text_is_utf8 : (v : Value) → IsUtf8 (text_of (view v))
unfolding HasText
text_is_utf8 = ind-Value HasText (λ x y is. subst (λ z. HasText (roll-Value z)) is (rolled y))
