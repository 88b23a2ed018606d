-- Groups of digits, digit by digit.
use Rattle.std.proofs.Common.{◌≡◌, ℕ, suc, ◌+◌, ◌-◌, ◌<◌, List, [], ◌∷◌, ◌++◌, length, get_or, drop, ap, sym, ◌∙◌, ◌≤◌, append_assoc, append-nil, length-drop, arith}
use Rattle.std.proofs.lemmas.List.{drop_all}
use Rattle.std.proofs.Math.Seq.{drop-cons}
use Rattle.std.proofs.lemmas.Str.{encode_ascii}
use Rattle.std.specs.Char.{encode_utf8}
use Rattle.liquid_decimals.specs.Written.{digit_groups, separator_at}

-- one turn of the loop over the digits
pub grouped_turn : (sep ds out pushed next all : List ℕ) (i b left : ℕ) → i < length ds → b ≡ get_or ds i 0
    → b < 128 → left ≡ length ds - i - 1 → pushed ≡ out ++ encode_utf8 b → next ≡ pushed ++ separator_at sep left
    → all ≡ out ++ digit_groups sep (drop i ds) → all ≡ next ++ digit_groups sep (drop (i + 1) ds)
grouped_turn sep ds out pushed next all i b left l e a z p n h =
    let one : suc i ≡ i + 1 = omega arith in
    let more : drop (suc i) ds ≡ drop (i + 1) ds = ap (λ n. drop n ds) one in
    let rest = drop (i + 1) ds in
    let g = digit_groups sep rest in
    let size : length rest ≡ left = omega (arith, length-drop (i + 1) ds) in
    let s = separator_at sep left in
    h ∙ ap (λ t. out ++ digit_groups sep t) (drop-cons ds i 0 l)
    ∙ ap (λ t. out ++ (get_or ds i 0 ∷ (separator_at sep (length t) ++ digit_groups sep t))) more
    ∙ ap (λ d. out ++ (d ∷ (separator_at sep (length rest) ++ g))) (sym e)
    ∙ ap (λ k. out ++ (b ∷ (separator_at sep k ++ g))) size
    ∙ sym (append_assoc out (b ∷ []) (s ++ g))
    ∙ ap (λ t. (out ++ t) ++ (s ++ g)) (sym (encode_ascii b a))
    ∙ ap (λ t. t ++ (s ++ g)) (sym p)
    ∙ sym (append_assoc pushed s g)
    ∙ ap (λ t. t ++ g) (sym n)

pub grouped_end : (sep ds out all : List ℕ) (i : ℕ) → length ds ≤ i → all ≡ out ++ digit_groups sep (drop i ds) → out ≡ all
grouped_end sep ds out all i l h =
    sym (append-nil out) ∙ ap (λ t. out ++ digit_groups sep t) (sym (drop_all i ds l)) ∙ sym h
