-- A loop over a run of bytes, a turn at a time.
use Rattle.std.proofs.Common.{◌≡◌, ℕ, suc, ◌+◌, ◌-◌, ◌<◌, List, length, take, drop, get_or, Bool, true, false, cond, ap, ◌∙◌, arith, drop-cons}
use Rattle.std.proofs.lemmas.List.{take_rest}
use Rattle.liquid_model.specs.Front.{run_len}

module _ (t : ℕ → List ℕ → Bool) (bs : List ℕ) (n : ℕ) (within : n < length bs) (so_far : run_len t bs ≡ n + run_len t (drop n bs)) where
  here : run_len t (drop n bs) ≡ cond (t (get_or bs n 0) (drop (suc n) bs)) (suc (run_len t (drop (suc n) bs))) 0
  here = ap (run_len t) (drop-cons bs n 0 within)

  pub run_more : t (get_or bs n 0) (drop (suc n) bs) ≡ true → run_len t bs ≡ n + 1 + run_len t (drop (n + 1) bs)
  run_more e =
      let f : run_len t (drop n bs) ≡ suc (run_len t (drop (suc n) bs)) = here ∙ ap (λ (b : Bool). cond b (suc (run_len t (drop (suc n) bs))) 0) e in
      let one : suc n ≡ n + 1 = omega arith in
      let g : run_len t (drop (suc n) bs) ≡ run_len t (drop (n + 1) bs) = ap (λ k. run_len t (drop k bs)) one in
      omega (arith, so_far, f, g)

  pub run_done : t (get_or bs n 0) (drop (suc n) bs) ≡ false → n ≡ run_len t bs
  run_done e =
      let f : run_len t (drop n bs) ≡ 0 = here ∙ ap (λ (b : Bool). cond b (suc (run_len t (drop (suc n) bs))) 0) e in
      omega (arith, so_far, f)

-- what stands after a byte, as a slice from the next place on has it
pub after_byte : (bs : List ℕ) (n : ℕ) → take (length bs - (n + 1)) (drop (n + 1) bs) ≡ drop (suc n) bs
after_byte bs n = let one : n + 1 ≡ suc n = omega arith in take_rest bs (n + 1) ∙ ap (λ k. drop k bs) one
