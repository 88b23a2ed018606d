-- Tests of what is read and where bodies end.
use Rattle.std.specs.Prelude.{slice_get, T}
use Rattle.std.proofs.Common.{◌≡◌, ℕ, ◌+◌, ◌<◌, ◌≤◌, Bool, true, false, not, ◌&&◌, ◌||◌, List, [], ◌∷◌, ◌++◌, length, drop, get_or, Some, refl, sym, ap, ◌∙◌, subst, arith}
use Rattle.std.proofs.lemmas.Option.{slice_get_read, slice_get_within}
use Rattle.std.proofs.lemmas.List.{at_drop_more}
use Rattle.liquid_uses.proofs.FreeTree.{within}
use Rattle.liquid_model.specs.Texts.{Text, same_text}
use Rattle.liquid_model.proofs.Maps.{same_text_equal}
use Rattle.liquid_evaluation.specs.Names.{mentioned}
use Rattle.liquid_syntax.specs.Laid.{last_end}
use Rattle.liquid_syntax.specs.Flats.{arm_ends}
use Rattle.liquid_syntax.specs.declared.node.Arm.{Arm}
use Rattle.liquid_syntax.specs.declared.node.Node.{Node}
use Rattle.liquid_uses.specs.declared.scopes.Scopes.{Scopes}
use Rattle.liquid_uses.specs.declared.scopes.Reader.{Reader}
use Rattle.liquid_uses.specs.inside.Readings.{reads_in}
use Rattle.liquid_uses.specs.inside.Telling.{either_test}
use Rattle.liquid_uses.specs.inside.Scopes.{AreScoped, BindsIn, NodeScoped, Visible, bodies_end, end_at, ends_at, ends_hold, free, bound, kept_in, partial_reads, read_names, visible_to}

truly : (b : Bool) → b ≡ true → T b
truly b h = subst (λ c. T c) (sym h) tt

pub was_true : (b : Bool) → not b ≡ false → b ≡ true
was_true true h = refl
was_true false h = absurd cc

pub was_false : (b : Bool) → not b ≡ true → b ≡ false
was_false true h = absurd cc
was_false false h = refl

-- ---- names

pub visible_kept : (r : Reader) (q : Text) → kept_in r.scopes q ≡ true → visible_to r q
visible_kept r q h = free (truly (kept_in r.scopes q) h)

pub visible_bound : (r : Reader) (q : Text) (p : ℕ) (n : Node) → n ≡ get_or r.scopes.nodes.now p n → p < length r.scopes.nodes.now → p < r.at → BindsIn n (end_at r.scopes.ends.now p) r.at q → visible_to r q
visible_bound r q p n is inside before b = bound p n (slice_get_read r.scopes.nodes.now (length r.scopes.nodes.now) p n refl inside is) before b

or_none : (a : Bool) → T (a || false) → T a
or_none true h = tt
or_none false h = absurd h

pub visited : (r : Reader) (name q : Text) → T (mentioned (name ∷ []) q) → visible_to r name → visible_to r q
visited r name q m v = subst (visible_to r) (sym (same_text_equal q name (or_none (same_text q name) m))) v

-- ---- nodes

-- a node of which all that is evaluated is visible, and the bodies end as they are said to
pub node_scoped : (s : Scopes) (at : ℕ) (n : Node) → ends_hold s.ends.now at n ≡ true
    → ((q : Text) → T (mentioned (read_names n) q) → Visible (kept_in s) s.nodes.now s.ends.now at q)
    → ((q : Text) → T (partial_reads (reads_in s.readings.now.entries) n q) → Visible (kept_in s) s.nodes.now s.ends.now at q) → NodeScoped s at n
node_scoped s at n ends names partial = (ends, (λ q h. either_test (mentioned (read_names n) q) _ h (names q) (partial q)))

same_some : (m n : Node) → Some m ≡ Some n → m ≡ n
same_some m n e = cc

-- the nodes up to an index
abbrev pub ScopedBefore : Scopes → ℕ → Type 0
ScopedBefore s at = (i : ℕ) (n : Node) → i < at → slice_get s.nodes.now i ≡ Some n → NodeScoped s i n

pub none_before : (s : Scopes) → ScopedBefore s 0
none_before s i n lt is = absurd (omega arith)

pub one_more : (s : Scopes) (at : ℕ) (m : Node) → m ≡ get_or s.nodes.now at m → at < length s.nodes.now → ScopedBefore s at → NodeScoped s at m → ScopedBefore s (at + 1)
one_more s at m is inside before now i n lt there = within i at
    (λ less. before i n less there)
    (λ ge. let same : i ≡ at = omega (arith, ge, lt) in
    subst (λ j. NodeScoped s j n) (sym same)
    (subst (λ k. NodeScoped s at k) (same_some m n (sym (slice_get_read s.nodes.now (length s.nodes.now) at m refl inside is) ∙ ap (slice_get s.nodes.now) (sym same) ∙ there)) now))

pub all_scoped : (s : Scopes) → ends_at s.ends.now 0 (length s.nodes.now) ≡ true → (at : ℕ) → length s.nodes.now ≤ at → ScopedBefore s at → AreScoped (reads_in s.readings.now.entries) (kept_in s) s.nodes.now s.ends.now
all_scoped s start at le before = record {
  start = start;
  ends = λ i n there. (before i n (inside i n there) there).0;
  reads = λ i n there. (before i n (inside i n there) there).1;
}
  where
    inside : (i : ℕ) (n : Node) → slice_get s.nodes.now i ≡ Some n → i < at
    inside i n there = let lt = slice_get_within s.nodes.now i n there in omega (arith, lt, le)

-- ---- the bodies of a case

last_of : (k : ℕ) (es : List ℕ) (z : ℕ) → last_end k (es ++ z ∷ []) ≡ z
last_of k [] z = refl
last_of k (e ∷ es) z = last_of e es z

both_true : (a b : Bool) → a ≡ true → b ≡ true → (a && b) ≡ true
both_true true b h k = k
both_true false b h k = absurd cc

pub case_ends : (A : List ℕ) (next last end : ℕ) (es : List ℕ) → bodies_end A next (es ++ last ∷ []) ≡ true → ends_at A last end ≡ true → (bodies_end A next (es ++ last ∷ []) && ends_at A (last_end next (es ++ last ∷ [])) end) ≡ true
case_ends A next last end es h k = both_true _ _ h (subst (λ z. ends_at A z end ≡ true) (sym (last_of next es last)) k)

-- one arm on
pub next_arm : (A : List ℕ) (start last i : ℕ) (arms : List Arm) (arm : Arm) → arm ≡ get_or arms i arm → i < length arms → ends_at A start arm.end ≡ true
    → bodies_end A arm.end (arm_ends (drop (i + 1) arms) ++ last ∷ []) ≡ true → bodies_end A start (arm_ends (drop i arms) ++ last ∷ []) ≡ true
next_arm A start last i arms arm is lt here more =
    at_drop_more (λ l. bodies_end A start (arm_ends l ++ last ∷ [])) arms i arm lt
    ∙ ap (λ a. bodies_end A start (arm_ends (a ∷ drop (i + 1) arms) ++ last ∷ [])) (sym is)
    ∙ both_true _ _ here more
