-- The loops over bodies that aren't read, a turn at a time.
use Rattle.std.proofs.Common.{◌≡◌, ℕ, zero, suc, ◌+◌, ◌-◌, ◌<◌, ◌≤◌, List, length, drop, Bool, true, false, cond, codes, bytes_eq, Option, Some, None, refl, ap, sym, ◌∙◌, arith, length-drop}
use Rattle.std.specs.Option.{option_and_then}
use Rattle.liquid_model.specs.Front.{run_len}
use Rattle.liquid_lexer.specs.SourceReading.{Mark, mark_at, raw_at, in_comment, Skips, comment_ends, past_mark, comment_at}
use Rattle.liquid_lexer.proofs.MarkLaws.{mark_takes, mark_shorter, raw_takes, raw_shorter}

-- ---- marks

comment_turn : (n k : ℕ) (bs : List ℕ) → (again : Skips) × (comment_at n k bs ≡ option_and_then (past_mark again k) (mark_at (drop (run_len in_comment bs) bs))) × (0 < n → again ≡ comment_at (n - 1))
unfolding comment_at
comment_turn zero k bs = ((λ n bs. None), refl, λ h. absurd (omega (arith, h)))
comment_turn (suc n) k bs = (comment_at n, refl, λ h. ap comment_at (omega arith))

module _ (n k : ℕ) (bs past : List ℕ) (at : past ≡ drop (run_len in_comment bs) bs) where
  turned : (o : Option (Mark × List ℕ)) → mark_at past ≡ o → comment_at n k bs ≡ option_and_then (past_mark (comment_turn n k bs).0 k) o
  turned o e = (comment_turn n k bs).1 ∙ ap (λ (l : List ℕ). option_and_then (past_mark (comment_turn n k bs).0 k) (mark_at l)) (sym at) ∙ ap (option_and_then (past_mark (comment_turn n k bs).0 k)) e

  pub none_left : mark_at past ≡ None → comment_at n k bs ≡ None
  none_left e = turned None e

  past_shorter : length past ≤ length bs
  past_shorter = let e = ap (length {A = ℕ}) at ∙ length-drop (run_len in_comment bs) bs in omega (arith, e)

  module _ (m : Mark × List ℕ) (found : mark_at past ≡ Some m) where
    pub found_shorter : length m.1 < length bs
    found_shorter = omega (arith, past_shorter, mark_shorter (mark_takes past m found))

    pub to_inner : 0 < n → bytes_eq m.0.name (codes "comment") ≡ true → comment_at n k bs ≡ comment_at (n - 1) (k + 1) m.1
    to_inner some e =
        turned (Some m) found
        ∙ ap (λ (b : Bool). cond b ((comment_turn n k bs).0 (suc k) m.1) (cond (bytes_eq m.0.name (codes "raw")) (option_and_then (λ r. (comment_turn n k bs).0 k r.2) (raw_at m.1)) (comment_ends (comment_turn n k bs).0 k m))) e
        ∙ ap (λ (f : Skips). f (suc k) m.1) ((comment_turn n k bs).2 some) ∙ ap (λ j. comment_at (n - 1) j m.1) (omega arith)

    module _ (other : bytes_eq m.0.name (codes "comment") ≡ false) where
      no_inner : comment_at n k bs ≡ cond (bytes_eq m.0.name (codes "raw")) (option_and_then (λ r. (comment_turn n k bs).0 k r.2) (raw_at m.1)) (comment_ends (comment_turn n k bs).0 k m)
      no_inner = turned (Some m) found
          ∙ ap (λ (b : Bool). cond b ((comment_turn n k bs).0 (suc k) m.1) (cond (bytes_eq m.0.name (codes "raw")) (option_and_then (λ r. (comment_turn n k bs).0 k r.2) (raw_at m.1)) (comment_ends (comment_turn n k bs).0 k m))) other

      at_raw : bytes_eq m.0.name (codes "raw") ≡ true → comment_at n k bs ≡ option_and_then (λ r. (comment_turn n k bs).0 k r.2) (raw_at m.1)
      at_raw e = no_inner ∙ ap (λ (b : Bool). cond b (option_and_then (λ r. (comment_turn n k bs).0 k r.2) (raw_at m.1)) (comment_ends (comment_turn n k bs).0 k m)) e

      pub raw_open : bytes_eq m.0.name (codes "raw") ≡ true → raw_at m.1 ≡ None → comment_at n k bs ≡ None
      raw_open e h = at_raw e ∙ ap (option_and_then (λ r. (comment_turn n k bs).0 k r.2)) h

      pub past_raw : 0 < n → bytes_eq m.0.name (codes "raw") ≡ true → (r : List ℕ × Mark × List ℕ) → raw_at m.1 ≡ Some r → comment_at n k bs ≡ comment_at (n - 1) k r.2
      past_raw some e r h = at_raw e ∙ ap (option_and_then (λ r. (comment_turn n k bs).0 k r.2)) h ∙ ap (λ (f : Skips). f k r.2) ((comment_turn n k bs).2 some)

      pub raw_found_shorter : (r : List ℕ × Mark × List ℕ) → raw_at m.1 ≡ Some r → length r.2 < length bs
      raw_found_shorter r h = omega (arith, found_shorter, raw_shorter (raw_takes m.1 r h))

      at_end : bytes_eq m.0.name (codes "raw") ≡ false → comment_at n k bs ≡ comment_ends (comment_turn n k bs).0 k m
      at_end e = no_inner ∙ ap (λ (b : Bool). cond b (option_and_then (λ r. (comment_turn n k bs).0 k r.2) (raw_at m.1)) (comment_ends (comment_turn n k bs).0 k m)) e

      pub closed : bytes_eq m.0.name (codes "raw") ≡ false → k ≡ 0 → comment_at n k bs ≡ Some (m.0.after, m.1)
      closed e z = at_end e ∙ ends_at (comment_turn n k bs).0 k z
        where
          ends_at : (again : Skips) (k : ℕ) → k ≡ 0 → comment_ends again k m ≡ Some (m.0.after, m.1)
          ends_at again zero z = refl
          ends_at again (suc k) z = absurd (omega (arith, z))

      pub inner_closed : 0 < n → bytes_eq m.0.name (codes "raw") ≡ false → 0 < k → comment_at n k bs ≡ comment_at (n - 1) (k - 1) m.1
      inner_closed some e z = at_end e ∙ ends_at (comment_turn n k bs).0 k z ∙ ap (λ (f : Skips). f (k - 1) m.1) ((comment_turn n k bs).2 some)
        where
          ends_at : (again : Skips) (k : ℕ) → 0 < k → comment_ends again k m ≡ again (k - 1) m.1
          ends_at again zero z = absurd (omega (arith, z))
          ends_at again (suc k) z = ap (λ j. again j m.1) (omega arith)
