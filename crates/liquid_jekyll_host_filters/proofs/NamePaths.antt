-- Properties, cut at their first `.`.
use Rattle.std.proofs.Common.{◌≡◌, ℕ, zero, suc, ◌<◌, Bool, true, false, ◌==◌, List, [], ◌∷◌, ◌++◌, length, take, get_or, ap, ap₂, refl, sym, ◌∙◌, arith, append_assoc, append-nil, take_all, if◌then◌else◌}
use Rattle.std.proofs.lemmas.List.Sums.{split_at_first, fails_before_first, passes_at_first}
use Rattle.std.specs.List.{position_or_len, before_first, after_first}
use Rattle.liquid_model.specs.Data.{Datum}
use Rattle.liquid_jekyll_host_filters.specs.Properties.{along, map_member, dotted_property}

abbrev is_dot : ℕ → Bool
is_dot b = b == 46

-- a name goes on with bytes that are no dot
on : (name s rest : List ℕ) (n : ℕ) (d : Datum) → ((k : ℕ) → k < n → is_dot (get_or s k 0) ≡ false) → along name (take n s ++ rest) d ≡ along (name ++ take n s) rest d
on name s rest zero d h = ap (λ t. along t rest d) (sym (append-nil name))
on name [] rest (suc n) d h = ap (λ t. along t rest d) (sym (append-nil name))
on name (b ∷ s) rest (suc n) d h =
    ap (λ t. if t then along [] (take n s ++ rest) (map_member name d) else along (name ++ b ∷ []) (take n s ++ rest) d) (h 0 (omega arith))
    ∙ on (name ++ b ∷ []) s rest n d (λ k l. h (suc k) (omega arith)) ∙ ap (λ t. along t rest d) (append_assoc name (b ∷ []) (take n s))

pub step_on : (s before after : List ℕ) (d e all : Datum) → before ≡ before_first is_dot s → after ≡ after_first is_dot s → position_or_len is_dot s < length s → e ≡ map_member before d → all ≡ dotted_property s d → all ≡ dotted_property after e
step_on s before after d e all b a l m inv =
    let n = position_or_len is_dot s in
    let first = get_or s n 0 in
    inv ∙ ap (λ t. dotted_property t d) (split_at_first is_dot s 0 l) ∙ on [] s (first ∷ after_first is_dot s) n d (λ k i. fails_before_first is_dot s k 0 i)
    ∙ ap (λ t. if t then along [] (after_first is_dot s) (map_member (before_first is_dot s) d) else along (before_first is_dot s ++ first ∷ []) (after_first is_dot s) d) (passes_at_first is_dot s 0 l)
    ∙ ap₂ (λ x y. dotted_property x (map_member y d)) (sym a) (sym b) ∙ ap (dotted_property after) (sym m)

pub last_step : (s : List ℕ) (d e all : Datum) → position_or_len is_dot s ≡ length s → e ≡ map_member s d → all ≡ dotted_property s d → e ≡ all
last_step s d e all h m inv =
    let whole : take (length s) s ≡ s = take_all (length s) s (omega arith) in
    m ∙ sym (inv ∙ ap (λ t. dotted_property t d) (sym (append-nil s) ∙ ap (λ t. t ++ []) (sym whole)) ∙ on [] s [] (length s) d (λ k l. fails_before_first is_dot s k 0 (omega arith)) ∙ ap (λ t. map_member t d) whole)
