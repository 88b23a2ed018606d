-- Parts of lists, by what stands before and after them.
use Rattle.std.specs.Prelude.{◌≡◌, ℕ, suc, ◌+◌, ◌-◌, ◌<◌, ◌⊎◌, min, ℤ, pos, negsuc, List, [], ◌++◌}
use Rattle.std.specs.Prelude.{length}

-- ys are the first n of xs, or all where there are no more
abbrev pub AreFirst : {X : Type 0} → ℕ → List X → List X → Type 0
AreFirst {X} n xs ys = (rest : List X) × (xs ≡ ys ++ rest) × (length ys ≡ min n (length xs))

-- ys are the first n of those that follow the first `from` ones of xs
abbrev pub FollowFirst : {X : Type 0} → ℕ → ℕ → List X → List X → Type 0
FollowFirst {X} from n xs ys = (before : List X) × (rest : List X) × (xs ≡ before ++ rest) ×
    (length before ≡ min from (length xs)) × AreFirst n rest ys

-- an offset among n places: at most n, and one below 0 counts from the end
abbrev pub IsPlace : ℕ → ℤ → ℕ → Type 0
IsPlace n (pos z) from = from ≡ min z n
IsPlace n (negsuc z) from = from + suc z ≡ n

-- an offset that stays below 0
abbrev pub IsBeforeStart : ℕ → ℤ → Type 0
IsBeforeStart n (pos z) = ⊥
IsBeforeStart n (negsuc z) = n < suc z

-- ys is the part of xs from the offset on, of n places
abbrev pub IsPart : {X : Type 0} → ℕ → ℤ → ℕ → List X → List X → Type 0
IsPart {X} n offset count xs ys =
    ((from : ℕ) × IsPlace n offset from × FollowFirst from (min count (n - from)) xs ys) ⊎
    (IsBeforeStart n offset × (ys ≡ []))
