-- Where a text may be cut: before an opener, before the whitespace at its end, and before its rest.
use Rattle.std.proofs.Common.{◌≡◌, ℕ, suc, ◌+◌, ◌-◌, ◌<◌, ◌≤◌, List, [], ◌∷◌, ◌++◌, length, get_or, Bool, true, false, not, ◌&&◌, subst, arith, refl, cond, eqb, reverse, ap, ◌∙◌}
use Rattle.std.specs.List.{suffix_len}
use Rattle.std.proofs.lemmas.List.{get_or-reverse, length-append}
use Rattle.std.proofs.lemmas.List.Sums.{suffix_len-le-length, prefix_len_passes}
use Rattle.std.specs.Str.{IsUtf8, IsCharBoundary}
use Rattle.std.proofs.lemmas.Bool.{eqb-true}
use Rattle.liquid_model.specs.Bytes.{is_white, plain, opens}
use Rattle.liquid_model.specs.Front.{run_len}
use Rattle.liquid_model.proofs.Cuts.{run_within, white_low}
use Rattle.std.proofs.lemmas.Str.{IsCharBoundary-at_seam}

both_true : (a b : Bool) → not (a && b) ≡ false → a ≡ true
both_true true b h = refl
both_true false b h = absurd cc

stop_by : (b : ℕ) (bs : List ℕ) (t : Bool) → plain b bs ≡ t → cond t (suc (run_len plain bs)) 0 < suc (length bs) → (run_len plain bs < length bs → get_or bs (run_len plain bs) 0 ≡ 123) → get_or (b ∷ bs) (cond t (suc (run_len plain bs)) 0) 0 ≡ 123
unfolding plain
stop_by b bs true e h f = f (omega arith)
stop_by b bs false e h f = eqb-true b 123 (both_true (eqb b 123) (opens bs) e)

plain_stop : (bs : List ℕ) → run_len plain bs < length bs → get_or bs (run_len plain bs) 0 ≡ 123
unfolding plain
plain_stop [] h = absurd (omega arith)
plain_stop (b ∷ bs) h = stop_by b bs (plain b bs) refl h (plain_stop bs)

pub plain_cut : (bs : List ℕ) → IsUtf8 bs → IsCharBoundary bs (run_len plain bs)
plain_cut bs u = (run_within plain bs, λ l h. absurd (omega (arith, plain_stop bs l)))

-- ---- the end of a text

white_then : (bs : List ℕ) → length bs - suffix_len (λ b. is_white b []) bs < length bs → 128 ≤ get_or bs (length bs - suffix_len (λ b. is_white b []) bs) 0 → ⊥
white_then bs l h =
    let p : ℕ → Bool = λ b. is_white b [] in
    let n = suffix_len p bs in
    let le = suffix_len-le-length p bs in
    let some : 0 < n = omega (arith, l) in
    let before : n - 1 < n = omega (arith, some) in
    let in_list : n - 1 < length bs = omega (arith, some, le) in
    let w : is_white (get_or (reverse bs) (n - 1) 0) [] ≡ true = prefix_len_passes p (reverse bs) (n - 1) 0 before in
    let low = white_low (get_or (reverse bs) (n - 1) 0) [] w in
    let at : length bs - 1 - (n - 1) ≡ length bs - n = omega (arith, some, le) in
    let same : get_or (reverse bs) (n - 1) 0 ≡ get_or bs (length bs - n) 0 = get_or-reverse bs (n - 1) 0 in_list ∙ ap (λ i. get_or bs i 0) at in
    absurd (omega (arith, low, same, h))

pub trim_cut : (bs : List ℕ) → IsUtf8 bs → IsCharBoundary bs (length bs - suffix_len (λ b. is_white b []) bs)
trim_cut bs u = (omega arith, λ l h. absurd (white_then bs l h))

-- ---- before the rest

pub seam_cut : (bs front rest : List ℕ) → bs ≡ front ++ rest → IsUtf8 rest → IsCharBoundary bs (length bs - length rest)
seam_cut bs front rest e u =
    let l = ap (length {A = ℕ}) e ∙ length-append front rest in
    subst (IsCharBoundary bs) (omega (arith, l)) (IsCharBoundary-at_seam bs front rest e u)
