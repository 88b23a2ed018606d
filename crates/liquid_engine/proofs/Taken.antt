-- What is left of limits, step after step, and two counts of failures as one.
use Rattle.std.proofs.Common.{arith, ◌≡◌, ℕ, ◌+◌, ◌-◌, ◌≤◌, eqb, true, false, List, ◌++◌, length, take, Option, Some, None, sym, ap, subst, ◌∙◌}
use Rattle.std.proofs.lemmas.Bool.Decides.{nat_tests}
use Rattle.std.proofs.lemmas.List.{length-append, length-take-le}
use Rattle.liquid_engine.specs.Failures.{raised}
use Rattle.liquid_engine.specs.LimitedParts.{both}
use Rattle.liquid_engine.specs.Limits.{Takes, TakesBytes}
use Rattle.liquid_engine.specs.declared.limits.Limits.{Limits}

Takes-more : (n m : ℕ) (a b c : Option ℕ) → Takes n a b → Takes m b c → Takes (n + m) a c
Takes-more n m None b c p q = subst (λ x. Takes m x c) p q
Takes-more n m (Some x) b c p q =
    let more : Takes m (Some (x - n)) c = subst (λ y. Takes m y c) p.1 q in
    let first : n ≤ x = p.0 in
    let next : m ≤ x - n = more.0 in
    let sum : (x - n) - m ≡ x - (n + m) = omega arith in
    (omega (arith, first, next), more.1 ∙ ap Some sum)

-- more was taken
pub TakesBytes-more : (n m : ℕ) (a b c : Limits) → TakesBytes n a b → TakesBytes m b c → TakesBytes (n + m) a c
TakesBytes-more n m a b c p q = (Takes-more n m a.bytes b.bytes c.bytes p.0 q.0, q.1 ∙ p.1)

-- n bytes more of those that were left to write
pub TakesBytes-front : (done rest : List ℕ) (n : ℕ) (a b c : Limits) → TakesBytes (length done) a b → n ≤ length rest → TakesBytes n b c → TakesBytes (length (done ++ take n rest)) a c
TakesBytes-front done rest n a b c p bound q =
    subst (λ k. TakesBytes k a c) (sym (length-append done (take n rest) ∙ ap (λ k. length done + k) (length-take-le n rest bound))) (TakesBytes-more (length done) n a b c p q)

-- ---- two counts of failures as one

-- a limit refused nothing where no write failed
pub none_refused : (r : ℕ) → both 0 r ≡ 0 → eqb r 0 ≡ true
none_refused r is = grind (arith, nat_tests)

-- over a writer that never fails it is a limit that refused
pub one_refused : (r : ℕ) → both 0 r ≡ raised 0 → eqb r 0 ≡ false
one_refused r is = grind (arith, nat_tests)
