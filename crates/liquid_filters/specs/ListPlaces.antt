-- Lists made from lists, place by place.
use Rattle.std.specs.Prelude.{◌≡◌, ℕ, ◌-◌, ◌<◌, ◌⊎◌, List, [], ◌∷◌, ◌++◌, length, take, drop}
use Rattle.std.specs.Prelude.{slice_get, Option, Some, None}
use Rattle.liquid_model.specs.Data.{Datum}
use Rattle.liquid_model.specs.Texts.{Text}

-- the first item, or none of an empty list
abbrev pub StartsWith : {X : Type 0} → List X → Option X → Type 0
StartsWith xs None = xs ≡ []
StartsWith {X} xs (Some x) = (rest : List X) × (xs ≡ x ∷ rest)

-- the last item, or none of an empty list
abbrev pub EndsWith : {X : Type 0} → List X → Option X → Type 0
EndsWith xs None = xs ≡ []
EndsWith {X} xs (Some x) = (before : List X) × (xs ≡ before ++ x ∷ [])

-- as long, with the items counted from the other end
abbrev pub IsReversed : List Datum → List Datum → Type 0
IsReversed ds out = (length out ≡ length ds) × ((i : ℕ) → i < length ds → slice_get out i ≡
    slice_get ds (length ds - 1 - i))

-- the first items are those of ds, and what follows are those of es
abbrev pub IsFollowed : List Datum → List Datum → List Datum → Type 0
IsFollowed ds es out = (take (length ds) out ≡ ds) × (drop (length ds) out ≡ es)

-- the texts in a row, the separator between each and the next
abbrev pub IsJoined : Text → List Text → Text → Type 0
IsJoined separator [] s = s ≡ []
IsJoined separator (t ∷ []) s = s ≡ t
IsJoined separator (t ∷ u ∷ ts) s = (rest : Text) × (s ≡ t ++ (separator ++ rest)) ×
    IsJoined separator (u ∷ ts) rest

-- the items of which P holds, in their order
abbrev pub KeepsItems : (Datum → Type 0) → List Datum → List Datum → Type 0
KeepsItems P [] out = out ≡ []
KeepsItems P (d ∷ ds) out = (P d × (rest : List Datum) × (out ≡ d ∷ rest) × KeepsItems P ds rest) ⊎
    (¬ (P d) × KeepsItems P ds out)

-- the values of the items that have one, in their order
abbrev pub KeepsValues : (Datum → Option Datum) → List Datum → List Datum → Type 0
KeepsValues value [] out = out ≡ []
KeepsValues value (d ∷ ds) out = ((e : Datum) × (value d ≡ Some e) × (rest : List Datum) ×
    (out ≡ e ∷ rest) × KeepsValues value ds rest) ⊎
    ((value d ≡ None) × KeepsValues value ds out)

abbrev pub IsItemOf : Datum → List Datum → Type 0
IsItemOf d [] = ⊥
IsItemOf d (e ∷ es) = (e ≡ d) ⊎ IsItemOf d es

-- an item is kept exactly where no kept item before it equals it
abbrev pub KeepsFirsts : List Datum → List Datum → List Datum → Type 0
KeepsFirsts kept [] out = out ≡ []
KeepsFirsts kept (d ∷ ds) out = (¬ (IsItemOf d kept) × (rest : List Datum) × (out ≡ d ∷ rest) ×
    KeepsFirsts (kept ++ d ∷ []) ds rest) ⊎ (IsItemOf d kept × KeepsFirsts kept ds out)
