-- A state after a change.
use Rattle.std.proofs.Common.{◌≡◌, ℕ, List, [], ◌∷◌, ◌++◌, reverse, map, Bool, true, false, cond, Some, bytes_eq, sym, ap, refl, ◌∙◌}
use mathlib.Core.Path.{fun_ext}
use Rattle.std.proofs.Common.{Option, None, IsSome, is_some, length, take, ◌<◌, ◌+◌, ◌-◌, arith, true≢false, String, Global, string_bytes, option_map}
use Rattle.std.specs.Prelude.{option_to_list}
use Rattle.std.specs.BTreeMap.{BTreeMap, get_by_text, UpdatesBy}
use Rattle.std.specs.String.{string_cmp}
use Rattle.std.proofs.lemmas.Map.Text.{btree_map_updates_text}
use Rattle.liquid_core.specs.declared.interrupt.Interrupt.{Interrupt}
use Rattle.std.proofs.lemmas.List.{map-append}
use Rattle.liquid_model.specs.declared.value.Value.{Value}
use Rattle.liquid_core.specs.declared.state.State.{State}
use Rattle.liquid_core.specs.declared.state.Parts.{Parts}
use Rattle.liquid_model.specs.Texts.{◌else◌}
use Rattle.liquid_model.specs.View.{view, pairs_view}
use Rattle.liquid_model.specs.Maps.{merged, empty}
use Rattle.liquid_core.specs.Environment.{local_of, lookup}
use Rattle.std.specs.Map.{lookup as entry_of}
use Rattle.std.specs.BTreeMap.{is_at}
use Rattle.std.specs.Cmp.Lexicographic.{slice_cmp}
use Rattle.std.specs.Ordering.{nat_cmp}
use Rattle.liquid_core.specs.Held.{held, map_of}
use Rattle.liquid_core.specs.Loops.{loop_scope}
use Rattle.liquid_core.specs.Places.{place_of}
use Rattle.liquid_core.specs.LoopFrames.{loop_name, loop_object, item_of, scope_maps, scope_map, frame_map_at, with_names, without_innermost, EndsIn, IsNext}
use Rattle.liquid_core.specs.declared.frame.Scope.TheVariants as variants
use Rattle.liquid_core.specs.declared.frame.LoopFrame.{LoopFrame}
use Rattle.liquid_core.specs.declared.frame.Scope.{Scope}
use Rattle.liquid_core.specs.States.{data_held, value_below_loops, IsPlain, layers_of, environment_of, new_layers, with_missing, with_scope_popped, with_scope_pushed, with_frame_at, enclosing_scopes, layers_with, with_interrupt, with_changed, with_assigned, with_cycle}
use Rattle.std.proofs.lemmas.List.{reverse-append, length-append}
use Rattle.std.proofs.Math.Seq.{take-append_seam}
use Rattle.std.proofs.lemmas.Slice.Eq.{bytes_eq-Decides}
use Rattle.liquid_model.specs.Texts.{Text}
use Rattle.liquid_model.specs.Data.{Datum, Pairs, put}
use Rattle.liquid_model.specs.Find.{value_at}
use Rattle.liquid_model.specs.Maps.{Map, insert}
use Rattle.liquid_model.proofs.Maps.{value_at_put, value_at_put_other}
use Rattle.liquid_model.proofs.Views.{view-lookup}

at_name : (b : Bool) (k q : Text) (d : Datum) (ps : Pairs) → bytes_eq k q ≡ b → value_at q (put k d ps) ≡ cond b (Some d) (value_at q ps)
at_name true k q d ps e = let same : k ≡ q = (bytes_eq-Decides k q).0 e in ap (λ x. value_at x (put k d ps)) (sym same) ∙ value_at_put k d ps
at_name false k q d ps e = value_at_put_other q k d ps (λ same. apart ((bytes_eq-Decides k q).1 (sym same)))
  where
    apart : bytes_eq k q ≡ true → ⊥
    apart h = cc

pub map_of_put : (k : Text) (d : Datum) (ps : Pairs) → map_of (put k d ps) ≡ insert (map_of ps) k d
unfolding map_of insert
map_of_put k d ps = fun_ext (λ q. at_name (bytes_eq k q) k q d ps refl)

pub reverse_push : {X Y : Type 0} (f : X → Y) (xs : List X) (x : X) → reverse (map f (xs ++ x ∷ [])) ≡ f x ∷ reverse (map f xs)
reverse_push f xs x = ap reverse (map-append f xs (x ∷ [])) ∙ reverse-append (map f xs) (f x ∷ [])

enclosing : {X : Type 0} (f : X → Map Datum) (xs ys : List X) (o : Option X) → xs ≡ ys ++ option_to_list o → (0 < length xs → IsSome o) → reverse (map f ys) ≡ enclosing_scopes (reverse (map f xs))
enclosing f xs ys (Some x) e v = sym (ap (λ l. enclosing_scopes (reverse (map f l))) e ∙ ap enclosing_scopes (reverse_push f ys x))
enclosing f [] [] None e v = refl
enclosing f [] (y ∷ ys) None e v = cc
enclosing f (x ∷ xs) ys None e v = absurd (true≢false (sym (v (omega arith))))

-- ---- the scopes that stand over others

pub standing_last : (ss : List Scope) (s : Scope) (b : List (Map Datum)) → scope_maps (ss ++ s ∷ []) b ≡ scope_map s (local_of (scope_maps ss b)) ∷ scope_maps ss b
standing_last [] s b = refl
standing_last (t ∷ ss) s b = standing_last ss s (scope_map t (local_of b) ∷ b)

enclosing_turns : (xs ys : List Scope) (o : Option Scope) (b : List (Map Datum)) → xs ≡ ys ++ option_to_list o → IsSome o → scope_maps ys b ≡ enclosing_scopes (scope_maps xs b)
enclosing_turns xs ys (Some x) b e v = sym (ap (λ l. enclosing_scopes (scope_maps l b)) e ∙ ap enclosing_scopes (standing_last ys x b))
enclosing_turns xs ys None b e v = cc

-- ---- loops

all_but_last : (ss : List Scope) (s : Scope) → without_innermost (ss ++ s ∷ []) ≡ ss
all_but_last ss s =
    ap (λ n. take n (ss ++ s ∷ [])) (ap (λ n. n - 1) (length-append ss (s ∷ [])) ∙ one_less (length ss)) ∙ take-append_seam ss (s ∷ [])
  where
    one_less : (n : ℕ) → n + 1 - 1 ≡ n
    one_less n = omega arith

-- the innermost is taken off
pub ended : (ss ts : List Scope) (o : Option Scope) → ss ≡ ts ++ option_to_list o → IsSome o → ts ≡ without_innermost ss
ended ss ts (Some s) e v = sym (ap without_innermost e ∙ all_but_last ts s)
ended ss ts None e v = cc

-- a scope that is added and taken off again leaves the loops
pub named_off : (ss : List Scope) (names : BTreeMap (String Global) Value) → without_innermost (with_names names ss) ≡ ss
named_off [] names = refl
named_off (s ∷ ss) names = all_but_last (s ∷ ss) (variants.Names names)

-- so does a loop that ends
pub turn_off : (ss : List Scope) (t : LoopFrame) → without_innermost (ss ++ variants.LoopFrame t ∷ []) ≡ ss
turn_off ss t = all_but_last ss (variants.LoopFrame t)

pub popped : (s t : State) (o : Option (BTreeMap (String Global) Value)) → s.frames.items ≡ [] → t.frames ≡ s.frames → s.scopes.items ≡ t.scopes.items ++ option_to_list o → (0 < length s.scopes.items → IsSome o)
    → t.assigned ≡ s.assigned → t.counters ≡ s.counters → t.«data» ≡ s.«data» → t.interrupt ≡ s.interrupt → t.cycles ≡ s.cycles → t.changed ≡ s.changed → t.missing ≡ s.missing → layers_of t ≡ with_scope_popped (layers_of s)
unfolding layers_of
popped s t o n m e v a b c d f g k =
    let plain : scope_maps t.frames.items (reverse (map held t.scopes.items)) ≡ reverse (map held t.scopes.items) = ap (λ l. scope_maps l (reverse (map held t.scopes.items))) (ap (λ v. v.items) m ∙ n) in
    let before : scope_maps s.frames.items (reverse (map held s.scopes.items)) ≡ reverse (map held s.scopes.items) = ap (λ l. scope_maps l (reverse (map held s.scopes.items))) n in
    λ i. record {
      scopes = (plain ∙ enclosing held s.scopes.items t.scopes.items o e v ∙ ap enclosing_scopes (sym before)) i;
      assigned = held (a i);
      counters = held (b i);
      globals = data_held (c i);
      registers = record { interrupt = d i; cycles = (λ group. get_by_text (f i) group); changed = option_map string_bytes (g i) };
      missing = k i;
    }

pub popped_turn : (s t : State) (o : Option Scope) → s.frames.items ≡ t.frames.items ++ option_to_list o → IsSome o → t.scopes ≡ s.scopes
    → t.assigned ≡ s.assigned → t.counters ≡ s.counters → t.«data» ≡ s.«data» → t.interrupt ≡ s.interrupt → t.cycles ≡ s.cycles → t.changed ≡ s.changed → t.missing ≡ s.missing → layers_of t ≡ with_scope_popped (layers_of s)
unfolding layers_of
popped_turn s t o e v m a b c d f g k =
    let outer : reverse (map held t.scopes.items) ≡ reverse (map held s.scopes.items) = ap (λ v. reverse (map held v.items)) m in
    λ i. record {
      scopes = (ap (scope_maps t.frames.items) outer ∙ enclosing_turns s.frames.items t.frames.items o (reverse (map held s.scopes.items)) e v) i;
      assigned = held (a i);
      counters = held (b i);
      globals = data_held (c i);
      registers = record { interrupt = d i; cycles = (λ group. get_by_text (f i) group); changed = option_map string_bytes (g i) };
      missing = k i;
    }

-- ---- pushes

pub pushed_turn : (s t : State) (x : Scope) → t.frames.items ≡ s.frames.items ++ x ∷ [] → t.scopes ≡ s.scopes
    → t.assigned ≡ s.assigned → t.counters ≡ s.counters → t.«data» ≡ s.«data» → t.interrupt ≡ s.interrupt → t.cycles ≡ s.cycles → t.changed ≡ s.changed → t.missing ≡ s.missing
    → layers_of t ≡ with_scope_pushed (scope_map x (environment_of s).local) (layers_of s)
unfolding layers_of
pushed_turn s t x e m a b c d f g k =
    let outer : reverse (map held t.scopes.items) ≡ reverse (map held s.scopes.items) = ap (λ v. reverse (map held v.items)) m in
    λ i. record {
      scopes = (ap (scope_maps t.frames.items) outer ∙ ap (λ l. scope_maps l (reverse (map held s.scopes.items))) e ∙ standing_last s.frames.items x (reverse (map held s.scopes.items))) i;
      assigned = held (a i);
      counters = held (b i);
      globals = data_held (c i);
      registers = record { interrupt = d i; cycles = (λ group. get_by_text (f i) group); changed = option_map string_bytes (g i) };
      missing = k i;
    }

pub pushed_scope : (s t : State) (x : BTreeMap (String Global) Value) → s.frames.items ≡ [] → t.frames ≡ s.frames → t.scopes.items ≡ s.scopes.items ++ x ∷ []
    → t.assigned ≡ s.assigned → t.counters ≡ s.counters → t.«data» ≡ s.«data» → t.interrupt ≡ s.interrupt → t.cycles ≡ s.cycles → t.changed ≡ s.changed → t.missing ≡ s.missing
    → layers_of t ≡ with_scope_pushed (held x) (layers_of s)
unfolding layers_of
pushed_scope s t x n m e a b c d f g k =
    let plain : scope_maps t.frames.items (reverse (map held t.scopes.items)) ≡ reverse (map held t.scopes.items) = ap (λ l. scope_maps l (reverse (map held t.scopes.items))) (ap (λ v. v.items) m ∙ n) in
    let before : scope_maps s.frames.items (reverse (map held s.scopes.items)) ≡ reverse (map held s.scopes.items) = ap (λ l. scope_maps l (reverse (map held s.scopes.items))) n in
    λ i. record {
      scopes = (plain ∙ ap (λ l. reverse (map held l)) e ∙ reverse_push held s.scopes.items x ∙ ap (λ l. held x ∷ l) (sym before)) i;
      assigned = held (a i);
      counters = held (b i);
      globals = data_held (c i);
      registers = record { interrupt = d i; cycles = (λ group. get_by_text (f i) group); changed = option_map string_bytes (g i) };
      missing = k i;
    }

-- nothing changed
pub unchanged : (s t : State) → t.frames.items ≡ s.frames.items → t.scopes.items ≡ s.scopes.items
    → t.assigned ≡ s.assigned → t.counters ≡ s.counters → t.«data» ≡ s.«data» → t.interrupt ≡ s.interrupt → t.cycles ≡ s.cycles → t.changed ≡ s.changed → t.missing ≡ s.missing → layers_of t ≡ layers_of s
unfolding layers_of
unchanged s t m n a b c d f g k = λ i. record {
  scopes = scope_maps (m i) (reverse (map held (n i)));
  assigned = held (a i);
  counters = held (b i);
  globals = data_held (c i);
  registers = record { interrupt = d i; cycles = (λ group. get_by_text (f i) group); changed = option_map string_bytes (g i) };
  missing = k i;
}

-- the parts of a state without loops
pub taken_apart : (s : State) (p : Parts) → s.frames.items ≡ [] → p.scopes ≡ s.scopes
    → p.assigned ≡ s.assigned → p.counters ≡ s.counters → p.interrupt ≡ s.interrupt → p.cycles ≡ s.cycles → p.changed ≡ s.changed → p.missing ≡ s.missing → layers_with p (data_held s.«data») ≡ layers_of s
unfolding layers_of
taken_apart s p n m a b d f g k =
    let plain : scope_maps s.frames.items (reverse (map held s.scopes.items)) ≡ reverse (map held s.scopes.items) = ap (λ l. scope_maps l (reverse (map held s.scopes.items))) n in
    λ i. record {
      scopes = (ap (λ v. reverse (map held v.items)) m ∙ sym plain) i;
      assigned = held (a i);
      counters = held (b i);
      globals = data_held s.«data»;
      registers = record { interrupt = d i; cycles = (λ group. get_by_text (f i) group); changed = option_map string_bytes (g i) };
      missing = k i;
    }

pub put_together : (s : State) (p : Parts) → s.frames.items ≡ [] → s.scopes ≡ p.scopes
    → s.assigned ≡ p.assigned → s.counters ≡ p.counters → s.interrupt ≡ p.interrupt → s.cycles ≡ p.cycles → s.changed ≡ p.changed → s.missing ≡ p.missing → layers_of s ≡ layers_with p (data_held s.«data»)
put_together s p n m a b d f g k = sym (taken_apart s p n (sym m) (sym a) (sym b) (sym d) (sym f) (sym g) (sym k))

-- a loop at its next item binds what it binds there
next_map : (t u : LoopFrame) (local : Map Datum) → IsNext t u → frame_map_at u u.at local ≡ frame_map_at t (t.at + 1) local
next_map t u local n = λ i. loop_scope (loop_name (n.kind i)) (loop_object (n.kind i) (n.at i) (n.count i) local) (n.name i).now (item_of (n.items i) (place_of (n.reversed i) (n.from i) (n.count i) (n.at i)))

pub advanced : (s n : State) (before : List Scope) (t u : LoopFrame) → EndsIn s.frames.items before t → EndsIn n.frames.items before u → IsNext t u → n.scopes ≡ s.scopes
    → n.assigned ≡ s.assigned → n.counters ≡ s.counters → n.«data» ≡ s.«data» → n.interrupt ≡ s.interrupt → n.cycles ≡ s.cycles → n.changed ≡ s.changed → n.missing ≡ s.missing
    → layers_of n ≡ with_frame_at t (t.at + 1) (layers_of s)
unfolding layers_of
advanced s n before t u old new next m a b c d f g k =
    let outer = reverse (map held s.scopes.items) in
    let same : reverse (map held n.scopes.items) ≡ outer = ap (λ v. reverse (map held v.items)) m in
    let was : scope_maps s.frames.items outer ≡ frame_map_at t t.at (local_of (scope_maps before outer)) ∷ scope_maps before outer = ap (λ l. scope_maps l outer) old ∙ standing_last before (variants.LoopFrame t) outer in
    let now : scope_maps n.frames.items (reverse (map held n.scopes.items)) ≡ frame_map_at u u.at (local_of (scope_maps before outer)) ∷ scope_maps before outer = ap (scope_maps n.frames.items) same ∙ ap (λ l. scope_maps l outer) new ∙ standing_last before (variants.LoopFrame u) outer in
    λ i. record {
      scopes = (now
          ∙ ap (λ x. x ∷ scope_maps before outer) (next_map t u (local_of (scope_maps before outer)) next)
          ∙ sym (ap (λ l. frame_map_at t (t.at + 1) (local_of (enclosing_scopes l)) ∷ enclosing_scopes l) was)) i;
      assigned = held (a i);
      counters = held (b i);
      globals = data_held (c i);
      registers = record { interrupt = d i; cycles = (λ group. get_by_text (f i) group); changed = option_map string_bytes (g i) };
      missing = k i;
    }

-- ---- looking up

abbrev Outer : Type 0
Outer = BTreeMap (String Global) Value

-- of the scopes that are left, the last one is looked at first
at_last : (q : Text) (before all : List Outer) (s : Outer) → all ≡ before ++ s ∷ [] → local_of (reverse (map held all)) q ≡ (held s q else local_of (reverse (map held before)) q)
unfolding merged
at_last q before all s e = ap (λ l. local_of (reverse (map held l)) q) e ∙ ap (λ l. local_of l q) (reverse_push held before s)

pub found_in_last : (q : Text) (before all : List Outer) (s : Outer) (d : Option Datum) → all ≡ before ++ s ∷ [] → d ≡ value_at q (pairs_view s.entries) → IsSome d → d ≡ local_of (reverse (map held all)) q
unfolding map_of
found_in_last q before all s (Some d) e h k = ap (λ o. o else local_of (reverse (map held before)) q) h ∙ sym (at_last q before all s e)
found_in_last q before all s None e h k = cc

pub missing_in_last : (q : Text) (before all : List Outer) (s : Outer) → all ≡ before ++ s ∷ [] → None ≡ value_at q (pairs_view s.entries) → local_of (reverse (map held before)) q ≡ local_of (reverse (map held all)) q
unfolding map_of
missing_in_last q before all s e h = ap (λ o. o else local_of (reverse (map held before)) q) h ∙ sym (at_last q before all s e)

pub missing_in_none : (q : Text) (left : List Outer) → left ≡ [] → None ≡ local_of (reverse (map held left)) q
unfolding empty
missing_in_none q left e = sym (ap (λ l. local_of (reverse (map held l)) q) e)

pub local_in : (s : State) → (environment_of s).local ≡ local_of (scope_maps s.frames.items (reverse (map held s.scopes.items)))
unfolding layers_of
local_in s = refl

pub looked_up : (s : State) (q : Text) → lookup (environment_of s) q
    ≡ ((((environment_of s).local q else value_at q (pairs_view s.assigned.entries)) else (layers_of s).counters q) else data_held s.«data» q)
unfolding layers_of map_of
looked_up s q = refl

pub beside_at : (s : State) (q : Text) → value_below_loops s q
    ≡ (((local_of (reverse (map held s.scopes.items)) q else value_at q (pairs_view s.assigned.entries)) else (layers_of s).counters q) else data_held s.«data» q)
unfolding layers_of map_of
beside_at s q = refl

-- where nothing before the data holds the name
pub beside_globals : (s : State) (q : Text) (xs : List Outer) (d : Option Datum) → xs ≡ s.scopes.items → None ≡ local_of (reverse (map held xs)) q → None ≡ value_at q (pairs_view s.assigned.entries) → None ≡ (layers_of s).counters q
    → d ≡ data_held s.«data» q → d ≡ value_below_loops s q
beside_globals s q xs d is o a c h =
    let outer : None ≡ local_of (reverse (map held s.scopes.items)) q = o ∙ ap (λ l. local_of (reverse (map held l)) q) is in
    let none : data_held s.«data» q ≡ (((local_of (reverse (map held s.scopes.items)) q else value_at q (pairs_view s.assigned.entries)) else (layers_of s).counters q) else data_held s.«data» q) =
    λ i. (((outer i else a i) else c i) else data_held s.«data» q) in
    h ∙ none ∙ sym (beside_at s q)

-- no scope after one that holds nothing under a name does
after_none : (ss : List Scope) (b : List (Map Datum)) (q : Text) → local_of (scope_maps ss b) q ≡ None → local_of b q ≡ None
unfolding merged
after_none [] b q h = h
after_none (s ∷ ss) b q h = second (scope_map s (local_of b) q) (local_of b q) (first_is s b q ∙ after_none ss (scope_map s (local_of b) ∷ b) q h)
  where
    second : (x y : Option Datum) → (x else y) ≡ None → y ≡ None
    second None y h = h
    second (Some d) y h = absurd cc

    first_is : (s : Scope) (b : List (Map Datum)) (q : Text) → (scope_map s (local_of b) q else local_of b q) ≡ local_of (scope_map s (local_of b) ∷ b) q
    first_is s b q = refl

pub beside_as : (s : State) (q : Text) → local_of (reverse (map held s.scopes.items)) q ≡ (environment_of s).local q → value_below_loops s q ≡ lookup (environment_of s) q
beside_as s q h = ap (λ o. ((o else (environment_of s).assigned q) else (environment_of s).counters q) else (environment_of s).globals q) h

-- without a loop that is all there is
pub plain_beside : (s : State) (q : Text) → IsPlain s → value_below_loops s q ≡ lookup (environment_of s) q
plain_beside s q plain = beside_as s q (sym (ap (λ m. m q) (local_in s) ∙ ap (λ l. local_of (scope_maps l (reverse (map held s.scopes.items))) q) plain))

-- and so it is for a name that no scope holds
pub none_beside : (s : State) (q : Text) → (environment_of s).local q ≡ None → value_below_loops s q ≡ lookup (environment_of s) q
none_beside s q none = beside_as s q (after_none s.frames.items (reverse (map held s.scopes.items)) q (sym (ap (λ m. m q) (local_in s)) ∙ none) ∙ sym none)

pub held_at : (o : Outer) (q : Text) → held o q ≡ value_at q (pairs_view o.entries)
unfolding map_of
held_at o q = refl

pub counter_of : (s : State) (q : Text) → (layers_of s).counters q ≡ value_at q (pairs_view s.counters.entries)
unfolding layers_of map_of
counter_of s q = refl

-- ---- a new state

pub all_empty : (s : State) → s.frames.items ≡ [] → s.scopes.items ≡ [] → s.assigned.entries ≡ [] → s.counters.entries ≡ [] → s.interrupt ≡ None → s.cycles.entries ≡ [] → s.changed ≡ None → layers_of s ≡ with_missing s.missing (new_layers (data_held s.«data»))
unfolding layers_of map_of empty
all_empty s n a b c d e f = λ i. record {
  scopes = scope_maps (n i) (reverse (map held (a i)));
  assigned = map_of (pairs_view (b i));
  counters = map_of (pairs_view (c i));
  globals = data_held s.«data»;
  registers = record { interrupt = d i; cycles = (λ group. entry_of (is_at (λ k. slice_cmp nat_cmp group (string_bytes k))) (e i)); changed = option_map string_bytes (f i) };
  missing = s.missing;
}

-- ---- registers, which callers read and set as fields

pub interrupt_of : (s : State) → (layers_of s).registers.interrupt ≡ s.interrupt
unfolding layers_of
interrupt_of s = refl

pub interrupt_set : (s : State) (i : Option Interrupt) → layers_of (record s { interrupt = i }) ≡ with_interrupt i (layers_of s)
unfolding layers_of
interrupt_set s i = refl

pub changed_set : (s : State) (shown : Option (String Global)) → layers_of (record s { changed = shown }) ≡ with_changed (option_map string_bytes shown) (layers_of s)
unfolding layers_of
changed_set s shown = refl

pub cycle_of : (s : State) (group : Text) → (layers_of s).registers.cycles group ≡ get_by_text s.cycles group
unfolding layers_of
cycle_of s group = refl

viewed : (b : Bool) (v : Value) (o : Option Value) → option_map view (cond b (Some v) o) ≡ cond b (Some (view v)) (option_map view o)
viewed true v o = refl
viewed false v o = refl

-- m is s's assigned variables after a value of v is written at the name
pub assigned_set : (s : State) (m : Outer) (name : Text) (v : Value) → UpdatesBy string_cmp (λ k. slice_cmp nat_cmp name (string_bytes k)) s.assigned m (Some v)
    → layers_of (record s { assigned = m }) ≡ with_assigned name (view v) (layers_of s)
unfolding layers_of map_of insert
assigned_set s m name v h = λ i. record {
  scopes = scope_maps s.frames.items (reverse (map held s.scopes.items));
  assigned = fun_ext (λ q. sym (view-lookup q m.entries) ∙ ap (option_map view) (btree_map_updates_text name s.assigned m (Some v) h q) ∙ viewed (bytes_eq name q) v (get_by_text s.assigned q) ∙ ap (cond (bytes_eq name q) (Some (view v))) (view-lookup q s.assigned.entries)) i;
  counters = held s.counters;
  globals = data_held s.«data»;
  registers = record { interrupt = s.interrupt; cycles = (λ group. get_by_text s.cycles group); changed = option_map string_bytes s.changed };
  missing = s.missing;
}

-- where the map of the assigned variables has no entry of a name, none was assigned
pub none_assigned : (s : State) (name : Text) → None ≡ get_by_text s.assigned name → IsSome ((layers_of s).assigned name) → ⊥
unfolding layers_of map_of
none_assigned s name none some =
    let is : value_at name (pairs_view s.assigned.entries) ≡ None = sym (view-lookup name s.assigned.entries) ∙ ap (option_map view) (sym none) in
    true≢false (sym some ∙ ap is_some is)

-- m is s's map of cycles after `insert`, of which the premise is the clause `updates`
pub cycle_set : (s : State) (m : BTreeMap (String Global) ℕ) (group : Text) (index : ℕ) → UpdatesBy string_cmp (λ k. slice_cmp nat_cmp group (string_bytes k)) s.cycles m (Some index)
    → layers_of (record s { cycles = m }) ≡ with_cycle group index (layers_of s)
unfolding layers_of insert
cycle_set s m group index h = λ i. record {
  scopes = scope_maps s.frames.items (reverse (map held s.scopes.items));
  assigned = held s.assigned;
  counters = held s.counters;
  globals = data_held s.«data»;
  registers = record { interrupt = s.interrupt; cycles = fun_ext (λ q. btree_map_updates_text group s.cycles m (Some index) h q) i; changed = option_map string_bytes s.changed };
  missing = s.missing;
}
