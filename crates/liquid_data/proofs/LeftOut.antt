-- A line that is left out.
use Rattle.std.specs.Prelude.{◌≡◌, ℕ, ◌==◌, ◌||◌, Bool, true, false, cond, List, [], ◌∷◌, ◌++◌, length, drop, if◌then◌else◌, Option, Some, None, Result, Ok, Err, OnOk}
use Rattle.std.specs.List.{list_any}
use Rattle.std.specs.Io.BufRead.{DropsThrough, drop_through}
use Rattle.std.specs.Io.KnownBytes.{Consumes}
use mathlib.Core.Path.{sym, ap, subst, ◌∙◌}

abbrev has_end : List ℕ → Bool
has_end bs = list_any (λ b. b == 10) bs

-- where no byte ends the line, it ends where the rest of it does
passed : (bs ys : List ℕ) → has_end bs ≡ false → drop_through 10 (bs ++ ys) ≡ drop_through 10 ys
passed [] ys h = λ i. drop_through 10 ys
passed (b ∷ bs) ys h = at (b == 10) (passed bs ys) h
  where
    at : (t : Bool) → (has_end bs ≡ false → drop_through 10 (bs ++ ys) ≡ drop_through 10 ys) → (t || has_end bs) ≡ false → (if t then bs ++ ys else drop_through 10 (bs ++ ys)) ≡ drop_through 10 ys
    at true next k = ap (λ x. cond x (bs ++ ys) (drop_through 10 ys)) k
    at false next k = next k

drops : (old mid new : Option (List ℕ)) (bs : List ℕ) → Consumes old mid bs → has_end bs ≡ false → DropsThrough mid new 10 → DropsThrough old new 10
drops None mid new bs c h d = tt
drops (Some xs) None new bs c h d = absurd c
drops (Some xs) (Some ys) new bs c h d = d ∙ ap (λ zs. Some zs) (sym (ap (drop_through 10) c ∙ passed bs ys h))

-- what was read of a line into an empty buffer, and the rest that is left out
pub left_out : {U E : Type 0} (r : Result U E) (old mid new : Option (List ℕ)) (empty bs : List ℕ) → empty ≡ [] → Consumes old mid (drop (length empty) bs) → OnOk r (has_end bs ≡ false) → OnOk r (DropsThrough mid new 10)
    → OnOk r (DropsThrough old new 10)
left_out (Ok u) old mid new empty bs none c h d = drops old mid new bs (subst (λ e. Consumes old mid (drop (length e) bs)) none c) h d
left_out (Err e) old mid new empty bs none c h d = tt
