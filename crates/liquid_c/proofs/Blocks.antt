-- What is open at an index of a list of nodes, and what a step of the walk adds.
use Rattle.std.proofs.Common.{◌≡◌, ℕ, ◌+◌, ◌-◌, ◌^◌, ◌<◌, ◌≤◌, min, max, List, [], ◌∷◌, Bool, true, false, cond, length, drop, get_or, nat_lt, refl, sym, ap, ◌∙◌, subst, arith}
use Rattle.std.proofs.lemmas.Bool.{lt-ltb, le-ltb, ltb-true, ltb-false}
use Rattle.std.proofs.lemmas.List.{at_drop_more}
use Rattle.liquid_syntax.specs.declared.node.Node.{Node}
use Rattle.liquid_c.specs.Levels.{has_else, left_by_elsif, levels_from, opened, still_open, levels_with_node}
use Rattle.liquid_c.specs.declared.levels.TemplateLevels.{TemplateLevels}
use Rattle.liquid_c.specs.declared.levels.Open.{Open}

-- the innermost hasn't ended
pub stays_open : (at : ℕ) (os : List Open) (o : Open) → o ≡ get_or os 0 o → at < o.end → still_open at os ≡ os
stays_open at [] o is lt = refl
stays_open at (x ∷ os) o is lt = ap (λ b. cond b (x ∷ os) (still_open at os)) (lt-ltb at x.end (subst (λ y. at < y.end) is lt))

-- it has
pub has_ended : (at : ℕ) (os : List Open) (o : Open) → o ≡ get_or os 0 o → o.end ≤ at → still_open at os ≡ still_open at (drop 1 os)
has_ended at [] o is le = refl
has_ended at (x ∷ os) o is le = ap (λ b. cond b (x ∷ os) (still_open at os)) (le-ltb at x.end (subst (λ y. y.end ≤ at) is le))

-- nothing is open
pub none_open : (at : ℕ) (os : List Open) → length os ≡ 0 → still_open at os ≡ os
none_open at [] none = refl
none_open at (x ∷ os) none = absurd (omega (arith, none))

pub left : (at end : ℕ) (os : List Open) (o : Open) → o ≡ get_or os 0 o → has_else o at end ≡ true → left_by_elsif at end os ≡ drop 1 os
left at end [] o is has = refl
left at end (x ∷ os) o is has = ap (λ b. cond b os (x ∷ os)) (subst (λ y. has_else y at end ≡ true) is has)

pub not_left : (at end : ℕ) (os : List Open) (o : Open) → o ≡ get_or os 0 o → has_else o at end ≡ false → left_by_elsif at end os ≡ os
not_left at end [] o is lacks = refl
not_left at end (x ∷ os) o is lacks = ap (λ b. cond b os (x ∷ os)) (subst (λ y. has_else y at end ≡ false) is lacks)

pub none_left : (at end : ℕ) (os : List Open) → length os ≡ 0 → left_by_elsif at end os ≡ os
none_left at end [] none = refl
none_left at end (x ∷ os) none = absurd (omega (arith, none))

-- one node on
pub next : (ns : List Node) (at : ℕ) (n : Node) (os before now : List Open) (l m : TemplateLevels) → at < length ns → n ≡ get_or ns at n → before ≡ still_open at os → now ≡ opened at n before → m ≡ levels_with_node n (length now + 1) l
    → levels_from at os l (drop at ns) ≡ levels_from (at + 1) now m (drop (at + 1) ns)
next ns at n os before now l m lt is closed enters adds =
    let e : now ≡ opened at n (still_open at os) = enters ∙ ap (opened at n) closed in
    at_drop_more (levels_from at os l) ns at n lt
    ∙ ap (λ g. levels_from at os l (g ∷ drop (at + 1) ns)) (sym is)
    ∙ ap (λ w. levels_from (at + 1) w (levels_with_node n (length w + 1) l) (drop (at + 1) ns)) (sym e)
    ∙ ap (λ k. levels_from (at + 1) now k (drop (at + 1) ns)) (sym adds)

-- a bound is passed by the most that a number holds just where it is passed by more
pub same_side : (b l t : ℕ) → b < 2 ^ 64 - 1 → nat_lt b (max l (min t (2 ^ 64 - 1))) ≡ nat_lt b (max l t)
same_side b l t small = on (nat_lt b (max l t)) refl
  where
    on : (v : Bool) → nat_lt b (max l t) ≡ v → nat_lt b (max l (min t (2 ^ 64 - 1))) ≡ nat_lt b (max l t)
    on true e = let lt = ltb-true b (max l t) e in lt-ltb b (max l (min t (2 ^ 64 - 1))) (omega (arith, lt, small)) ∙ sym e
    on false e = let le = ltb-false b (max l t) e in le-ltb b (max l (min t (2 ^ 64 - 1))) (omega (arith, le)) ∙ sym e
