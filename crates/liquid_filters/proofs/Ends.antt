-- The last item of a list and the last character of a text.
use Rattle.std.proofs.Common.{◌≡◌, ℕ, zero, suc, ◌-◌, List, [], ◌∷◌, ◌++◌, length, slice_get, Some, option_map, refl, sym, ap, rules, ◌∙◌, arith, length-append, subst, take, drop}
use Rattle.std.proofs.Math.Seq.{take-append_seam, drop-append_seam}
use Rattle.std.proofs.lemmas.List.{append-nil}
use Rattle.std.proofs.lemmas.Str.{IsUtf8-drop, IsCharBoundary-from_take, chars-append, chars-nil, chars_past_char}
use Rattle.std.specs.Char.{encode_utf8}
use Rattle.std.specs.Str.{chars, IsUtf8}
use Rattle.liquid_model.specs.Find.{item_at, item_back}
use Rattle.liquid_model.specs.View.{view, items_view}
use Rattle.liquid_model.specs.declared.value.Value.{Value}
use Rattle.liquid_model.proofs.Views.{items_len_view}

pub item_at_view : (vs : List Value) (i : ℕ) → option_map view (slice_get vs i) ≡ item_at i (items_view vs)
item_at_view [] i = refl
item_at_view (v ∷ vs) zero = refl
item_at_view (v ∷ vs) (suc i) = item_at_view vs i

pub item_back_view : (vs : List Value) → option_map view (slice_get vs (length vs - 1)) ≡ item_back 1 (items_view vs)
item_back_view [] = refl
item_back_view (v ∷ vs) = item_at_view (v ∷ vs) (length (v ∷ vs) - 1) ∙ rw (items_len_view vs) (search rules)

pub slice_get_last : {X : Type 0} (xs : List X) (x : X) → slice_get (xs ++ x ∷ []) (length (xs ++ x ∷ []) - 1) ≡ Some x
slice_get_last [] x = refl
slice_get_last (y ∷ ys) x =
    let e : length ((y ∷ ys) ++ x ∷ []) - 1 ≡ suc (length (ys ++ x ∷ []) - 1) = omega (arith, length-append ys (x ∷ [])) in
    rw e (slice_get_last ys x)

pub chars_last : (s t : List ℕ) (c : ℕ) → IsUtf8 s → IsUtf8 t → s ≡ t ++ encode_utf8 c → chars s ≡ chars t ++ c ∷ []
chars_last s t c whole before e =
    let edge = IsCharBoundary-from_take s (length t) whole (omega (arith, ap length e, length-append t (encode_utf8 c))) (subst IsUtf8 (sym (ap (take (length t)) e ∙ take-append_seam t (encode_utf8 c))) before) in
    let end : IsUtf8 (encode_utf8 c) = subst IsUtf8 (ap (drop (length t)) e ∙ drop-append_seam t (encode_utf8 c)) (IsUtf8-drop s (length t) whole edge) in
    let one : chars (encode_utf8 c) ≡ c ∷ chars [] = chars_past_char (encode_utf8 c) [] c end (sym (append-nil (encode_utf8 c))) in
    ap chars e ∙ chars-append t (encode_utf8 c) before ∙ ap (λ l. chars t ++ l) (one ∙ ap (λ l. c ∷ l) chars-nil)
