-- A text, part by part.
use Rattle.std.proofs.Common.{◌≡◌, ℕ, suc, ◌+◌, ◌<◌, ◌≤◌, ◌∷◌, length, Bool, true, false, not, cond, eqb, nat_lt, Option, Some, None, Bor, refl, arith}
use Rattle.std.specs.List.{after_first, before_first, position_or_len, slice_split, All}
use Rattle.std.proofs.lemmas.Bool.Decides.{nat_tests}
use Rattle.std.proofs.lemmas.List.{length-drop}
use Rattle.std.proofs.lemmas.List.Splits.{slice_split_first, slice_split_none}
use Rattle.std.proofs.lemmas.List.Sums.{prefix_len_passes}
use Rattle.liquid_model.specs.Texts.{Text}
use Rattle.liquid_yaml.specs.Bytes.{first_part, left_view, parts_left}

abbrev pub size_left : Option (Bor Text) → ℕ
size_left None = 0
size_left (Some s) = suc (length s.now)

abbrev pub size_of : Option Text → ℕ
size_of None = 0
size_of (Some s) = suc (length s)

pub sizes : (o : Option (Bor Text)) → size_left o ≡ size_of (left_view o)
sizes None = refl
sizes (Some s) = refl

not_false : (b : Bool) → not b ≡ true → b ≡ false
not_false true h = absurd cc
not_false false h = refl

module _ (c : ℕ) where
  none_pass : (s : Text) → nat_lt (position_or_len (λ b. eqb b c) s) (length s) ≡ false → All (λ b. eqb b c ≡ false) s
  none_pass s h k d l =
      let far : length s ≤ position_or_len (λ b. eqb b c) s = grind (arith, nat_tests) in
      not_false _ (prefix_len_passes (λ b. not (eqb b c)) s k d (omega arith))

  parts_by : (s : Text) (b : Bool) → nat_lt (position_or_len (λ b. eqb b c) s) (length s) ≡ b
      → slice_split (λ b. eqb b c) s ≡ (cond {A = Text × Option Text} b (before_first (λ b. eqb b c) s, Some (after_first (λ b. eqb b c) s)) (s, None)).0
      ∷ parts_left c ((cond {A = Text × Option Text} b (before_first (λ b. eqb b c) s, Some (after_first (λ b. eqb b c) s)) (s, None)).1)
  parts_by s true e = slice_split_first (λ b. eqb b c) s 0 (grind (arith, nat_tests))
  parts_by s false e = slice_split_none (λ b. eqb b c) s (none_pass s e)

  -- the parts of a text are its first part and those of what follows
  pub parts_first : (s : Text) → slice_split (λ b. eqb b c) s ≡ (first_part c s).0 ∷ parts_left c (first_part c s).1
  parts_first s = parts_by s (nat_lt (position_or_len (λ b. eqb b c) s) (length s)) refl

  size_by : (s : Text) (b : Bool) → nat_lt (position_or_len (λ b. eqb b c) s) (length s) ≡ b
      → size_of ((cond {A = Text × Option Text} b (before_first (λ b. eqb b c) s, Some (after_first (λ b. eqb b c) s)) (s, None)).1) ≤ length s
  size_by s true e =
      let near : position_or_len (λ b. eqb b c) s < length s = grind (arith, nat_tests) in
      let cut = length-drop (position_or_len (λ b. eqb b c) s + 1) s in
      omega (arith, near, cut)
  size_by s false e = omega arith

  pub size_less : (s : Text) → size_of (first_part c s).1 ≤ length s
  size_less s = size_by s (nat_lt (position_or_len (λ b. eqb b c) s) (length s)) refl
