-- Reading what may stand any number of times: a turn at a time, and just what the grammar says.
use Rattle.std.proofs.Common.{◌≡◌, ℕ, zero, suc, ◌<◌, ◌≤◌, arith, List, [], ◌∷◌, ◌++◌, length, Bool, true, false, Option, Some, None, refl, sym, ap, subst, ◌∙◌, append_assoc}
use Rattle.std.specs.Option.{option_map}
use Rattle.liquid_lexer.specs.Tokens.{Token}
use Rattle.liquid_model.proofs.WordLaws.{map_some, from_some}
use Rattle.liquid_parser.specs.Repeated.{AreRepeated, no_more, one_more, repeats_by, repeated_at, repeated_of}

-- what is read after the first ones
unfoldable pub after_those : {A : Type 0} → List A → Option (List A) → Option (List A)
after_those xs o = option_map (λ ys. xs ++ ys) o

pub after_is : {A : Type 0} (xs : List A) (o : Option (List A)) → option_map (λ ys. xs ++ ys) o ≡ after_those xs o
unfolding after_those
after_is xs o = refl

after_one : {A : Type 0} (xs : List A) (x : A) (o : Option (List A)) → after_those xs (option_map (λ ys. x ∷ ys) o) ≡ after_those (xs ++ x ∷ []) o
unfolding after_those
after_one xs x None = refl
after_one xs x (Some ys) = ap Some (sym (append_assoc xs (x ∷ []) ys))

same_turn : {A : Type 0} (f g : List Token → Option (List A)) (b : Bool) (o : Option (A × List Token)) → ((x : A × List Token) → o ≡ Some x → f x.1 ≡ g x.1) → repeats_by f b o ≡ repeats_by g b o
same_turn f g true o h = refl
same_turn f g false None h = refl
same_turn f g false (Some x) h = ap (λ (o : Option (List _)). option_map (λ xs. x.0 ∷ xs) o) (h x refl)

module _ {A : Type 0} (one : List Token → Option (A × List Token)) (ends : List Token → Bool) (shorter : (ts : List Token) (x : A × List Token) → one ts ≡ Some x → length x.1 < length ts) where
  enough : (n m : ℕ) (ts : List Token) → length ts ≤ n → length ts ≤ m → repeated_at one ends n ts ≡ repeated_at one ends m ts
  unfolding repeated_at
  enough zero zero ts h k = refl
  enough zero (suc m) ts h k = same_turn (λ us. None) (repeated_at one ends m) (ends ts) (one ts) (λ x e. absurd (omega (arith, h, shorter ts x e)))
  enough (suc n) zero ts h k = same_turn (repeated_at one ends n) (λ us. None) (ends ts) (one ts) (λ x e. absurd (omega (arith, k, shorter ts x e)))
  enough (suc n) (suc m) ts h k = same_turn (repeated_at one ends n) (repeated_at one ends m) (ends ts) (one ts) (λ x e. enough n m x.1 (omega (arith, h, shorter ts x e)) (omega (arith, k, shorter ts x e)))

  one_turn : (n : ℕ) (ts : List Token) → repeated_at one ends (suc n) ts ≡ repeats_by (repeated_at one ends n) (ends ts) (one ts)
  unfolding repeated_at
  one_turn n ts = refl

  unfolded : (ts : List Token) → repeated_of one ends ts ≡ repeats_by (repeated_of one ends) (ends ts) (one ts)
  unfolding repeated_of
  unfolded ts =
      enough (length ts) (suc (length ts)) ts (omega arith) (omega arith)
      ∙ one_turn (length ts) ts
      ∙ same_turn (repeated_at one ends (length ts)) (repeated_of one ends) (ends ts) (one ts) (λ x e. let l : length x.1 < length ts = shorter ts x e in enough (length ts) (length x.1) x.1 (omega (arith, l)) (omega arith))

  pub end_turn : (ts : List Token) → ends ts ≡ true → repeated_of one ends ts ≡ Some []
  end_turn ts e = unfolded ts ∙ ap (λ (b : Bool). repeats_by (repeated_of one ends) b (one ts)) e

  pub more_turn : (ts : List Token) (x : A) (rest : List Token) → ends ts ≡ false → one ts ≡ Some (x, rest) → repeated_of one ends ts ≡ option_map (λ xs. x ∷ xs) (repeated_of one ends rest)
  more_turn ts x rest e h = unfolded ts ∙ ap (λ (b : Bool). repeats_by (repeated_of one ends) b (one ts)) e ∙ ap (λ (o : Option (A × List Token)). repeats_by (repeated_of one ends) false o) h

  pub stuck_turn : (ts : List Token) → ends ts ≡ false → one ts ≡ None → repeated_of one ends ts ≡ None
  stuck_turn ts e h = unfolded ts ∙ ap (λ (b : Bool). repeats_by (repeated_of one ends) b (one ts)) e ∙ ap (λ (o : Option (A × List Token)). repeats_by (repeated_of one ends) false o) h

  -- ---- in a loop, after those that were read

  pub last_loop : (xs : List A) (ts : List Token) → ends ts ≡ true → after_those xs (repeated_of one ends ts) ≡ Some (xs ++ [])
  unfolding after_those
  last_loop xs ts e = ap (after_those xs) (end_turn ts e)

  pub more_loop : (xs : List A) (ts : List Token) (x : A) (rest : List Token) → ends ts ≡ false → one ts ≡ Some (x, rest) → after_those xs (repeated_of one ends ts) ≡ after_those (xs ++ x ∷ []) (repeated_of one ends rest)
  more_loop xs ts x rest e h = ap (after_those xs) (more_turn ts x rest e h) ∙ after_one xs x (repeated_of one ends rest)

  pub stuck_loop : (xs : List A) (ts : List Token) → ends ts ≡ false → one ts ≡ None → after_those xs (repeated_of one ends ts) ≡ None
  unfolding after_those
  stuck_loop xs ts e h = ap (after_those xs) (stuck_turn ts e h)

  -- ---- the grammar

  module _ (One : A → List Token → Type 0) (End : List Token → Type 0)
      (one_takes : (ts : List Token) (x : A) (rest : List Token) → one ts ≡ Some (x, rest) → (us : List Token) × (ts ≡ us ++ rest) × One x us)
      (one_again : (x : A) (ts rest : List Token) → One x ts → (one (ts ++ rest) ≡ Some (x, rest)) × (ends (ts ++ rest) ≡ false))
      (end_takes : (ts : List Token) → ends ts ≡ true → End ts) (end_again : (ts : List Token) → End ts → ends ts ≡ true) where
    pub repeated_again : (xs : List A) (ts : List Token) → AreRepeated One End xs ts → repeated_of one ends ts ≡ Some xs
    repeated_again xs ts (no_more e) = end_turn ts (end_again ts e)
    repeated_again xs ts (one_more {x = x} {xs = ys} {ts = front} {us = us} is more) =
        let (read, on) = one_again x front us is in
        more_turn (front ++ us) x us on read ∙ ap (λ (o : Option (List A)). option_map (λ xs. x ∷ xs) o) (repeated_again ys us more)

    takes_on : (ts : List Token) (xs : List A) (b : Bool) (o : Option (A × List Token)) → ((us : List Token) (ys : List A) → length us < length ts → repeated_of one ends us ≡ Some ys → AreRepeated One End ys us)
        → ends ts ≡ b → one ts ≡ o → repeats_by (repeated_of one ends) b o ≡ Some xs → AreRepeated One End xs ts
    takes_on ts xs true o more e f h = subst (λ (xs : List A). AreRepeated One End xs ts) (from_some h) (no_more (end_takes ts e))
    takes_on ts xs false None more e f h = absurd cc
    takes_on ts xs false (Some x) more e f h =
        let (ys, read, same) = map_some (repeated_of one ends x.1) (λ ys. x.0 ∷ ys) xs h in
        let (us, cut, is) = one_takes ts x.0 x.1 f in
        subst (λ (xs : List A). AreRepeated One End xs ts) same
        (subst (λ (ts : List Token). AreRepeated One End (x.0 ∷ ys) ts) (sym cut) (one_more is (more x.1 ys (shorter ts x f) read)))

    takes_by : (n : ℕ) (ts : List Token) (xs : List A) → length ts < n → repeated_of one ends ts ≡ Some xs → AreRepeated One End xs ts
    takes_by zero ts xs l h = absurd (omega (arith, l))
    takes_by (suc n) ts xs l h = takes_on ts xs (ends ts) (one ts) (λ us ys s g. takes_by n us ys (omega (arith, l, s)) g) refl refl (sym (unfolded ts) ∙ h)

    pub repeated_takes : (ts : List Token) (xs : List A) → repeated_of one ends ts ≡ Some xs → AreRepeated One End xs ts
    repeated_takes ts xs h = takes_by (suc (length ts)) ts xs (omega arith) h
