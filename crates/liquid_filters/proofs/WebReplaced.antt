-- A text in which characters give way to texts, cut at the first place of one of them.
use Rattle.std.proofs.Common.{◌≡◌, ℕ, zero, suc, ◌<◌, Bool, true, false, ◌==◌, List, [], ◌∷◌, ◌++◌, length, take, Bor, ap, subst, ap₂, refl, sym, ◌∙◌, arith, append_assoc, take_all, get_or, if◌then◌else◌}
use Rattle.std.proofs.lemmas.List.Concat.{flat_map-append}
use Rattle.std.proofs.lemmas.List.Sums.{split_at_first, fails_before_first, passes_at_first}
use Rattle.std.specs.List.{flat_map, position_or_len, before_first, after_first}
use Rattle.liquid_filters.specs.inside.Replaced.{AreAscii, Replacements, replaced_by}

-- steps that agree on the bytes that fail a test agree on the first n bytes, where these fail it
pub agree_first : (f g : ℕ → List ℕ) (p : ℕ → Bool) → ((b : ℕ) → p b ≡ false → f b ≡ g b) → (s : List ℕ) (n : ℕ) → ((k : ℕ) → k < n → p (get_or s k 0) ≡ false) → flat_map f (take n s) ≡ flat_map g (take n s)
agree_first f g p h s zero fails = refl
agree_first f g p h [] (suc n) fails = refl
agree_first f g p h (b ∷ s) (suc n) fails = ap₂ (λ x y. x ++ y) (h b (fails 0 (omega arith))) (agree_first f g p h s n (λ k l. fails (suc k) (omega arith)))

-- where two steps agree but for the bytes that pass
module _ (f g : ℕ → List ℕ) (p : ℕ → Bool) (h : (b : ℕ) → p b ≡ false → f b ≡ g b) where
  pub cut_none : (s : List ℕ) → position_or_len p s ≡ length s → flat_map f s ≡ flat_map g s
  cut_none s e =
      let all : take (length s) s ≡ s = take_all (length s) s (omega arith) in
      ap (flat_map f) (sym all) ∙ agree_first f g p h s (length s) (λ k l. fails_before_first p s k 0 (omega arith)) ∙ ap (flat_map g) all

  pub cut_first : (s made : List ℕ) → ((b : ℕ) → p b ≡ true → f b ≡ made) → position_or_len p s < length s
      → flat_map f s ≡ flat_map g (before_first p s) ++ (made ++ flat_map f (after_first p s))
  cut_first s made m l =
      let b = get_or s (position_or_len p s) 0 in
      ap (flat_map f) (split_at_first p s 0 l) ∙ flat_map-append f (before_first p s) (b ∷ after_first p s)
      ∙ ap₂ (λ x y. x ++ (y ++ flat_map f (after_first p s))) (agree_first f g p h s (position_or_len p s) (λ k i. fails_before_first p s k 0 i)) (m b (passes_at_first p s 0 l))

-- a list of the first character c, which gives way to `made`, and others
module _ (all rs : Replacements) (r : ℕ × Bor (List ℕ)) (c : ℕ) (made : List ℕ) (e : all ≡ r ∷ rs) (first : c ≡ r.0) (instead : made ≡ r.1.now) where
  abbrev is : ℕ → Bool
  is b = b == c

  other : (b : ℕ) → is b ≡ false → replaced_by all b ≡ replaced_by rs b
  other b h = ap (λ q. replaced_by q b) e ∙ ap (λ t. if t then r.1.now else replaced_by rs b) (ap (λ k. b == k) (sym first) ∙ h)

  itself : (b : ℕ) → is b ≡ true → replaced_by all b ≡ made
  itself b h = ap (λ q. replaced_by q b) e ∙ ap (λ t. if t then r.1.now else replaced_by rs b) (ap (λ k. b == k) (sym first) ∙ h) ∙ sym instead

  -- one turn of the loop over the places of c
  pub replaced_turn : (s before after out mid next whole : List ℕ) → before ≡ before_first (λ b. b == c) s → after ≡ after_first (λ b. b == c) s → position_or_len (λ b. b == c) s < length s
      → mid ≡ out ++ flat_map (replaced_by rs) before → next ≡ mid ++ made → whole ≡ out ++ flat_map (replaced_by all) s → whole ≡ next ++ flat_map (replaced_by all) after
  replaced_turn s before after out mid next whole b a l m n inv =
      let g = flat_map (replaced_by rs) before in
      let left = flat_map (replaced_by all) after in
      inv ∙ ap (λ t. out ++ t) (cut_first (replaced_by all) (replaced_by rs) is other s made itself l)
      ∙ ap₂ (λ x y. out ++ (flat_map (replaced_by rs) x ++ (made ++ flat_map (replaced_by all) y))) (sym b) (sym a)
      ∙ sym (append_assoc out g (made ++ left)) ∙ ap (λ t. t ++ (made ++ left)) (sym m) ∙ sym (append_assoc mid made left) ∙ ap (λ t. t ++ left) (sym n)

  pub replaced_end : (s out whole : List ℕ) → position_or_len (λ b. b == c) s ≡ length s → whole ≡ out ++ flat_map (replaced_by all) s → out ++ flat_map (replaced_by rs) s ≡ whole
  replaced_end s out whole h inv = ap (λ t. out ++ t) (sym (cut_none (replaced_by all) (replaced_by rs) is other s h)) ∙ sym inv

pub ascii_first : (all rs : Replacements) (r : ℕ × Bor (List ℕ)) (c : ℕ) → all ≡ r ∷ rs → c ≡ r.0 → AreAscii all → c < 128
ascii_first all rs r c e f h = let a = subst AreAscii e h in subst (λ k. k < 128) (sym f) a.0

no_more : (s : List ℕ) → flat_map (replaced_by []) s ≡ s
no_more [] = refl
no_more (b ∷ s) = ap (λ t. b ∷ t) (no_more s)

-- where there is no character, the text stays
pub replaced_none : (all : Replacements) (s : List ℕ) → all ≡ [] → flat_map (replaced_by all) s ≡ s
replaced_none all s e = ap (λ q. flat_map (replaced_by q) s) e ∙ no_more s
