-- What a loop's frame binds.
use Rattle.std.proofs.Common.{◌≡◌, ℕ, zero, suc, ◌<◌, ◌+◌, ◌-◌, List, [], ◌∷◌, map, get_or, length, arith, Bool, true, false, Some, None, bytes_eq, refl, sym, ap, ◌∙◌}
use Rattle.std.proofs.lemmas.Slice.Eq.{bytes_eq-Decides}
use Rattle.std.proofs.Common.{drop, take, ◌++◌, codes}
use Rattle.std.specs.Prelude.{◌==◌}
use Rattle.liquid_core.proofs.States.{standing_last}
use Rattle.liquid_core.specs.Environment.{local_of}
use Rattle.std.proofs.Common.{set}
use Rattle.std.proofs.lemmas.List.{length-append}
use Rattle.std.proofs.Math.Seq.{get_or-append_seam, set-append_seam}
use Rattle.liquid_core.specs.LoopFrames.{scope_maps, scope_map, object_part, loop_object, EndsIn}
use Rattle.liquid_core.specs.declared.frame.Scope.TheVariants as variants
use Rattle.liquid_core.specs.declared.frame.LoopFrame.{LoopFrame}
use Rattle.liquid_core.specs.declared.frame.LoopKind.{LoopKind}
use Rattle.liquid_core.specs.declared.frame.LoopKind.TheVariants as kinds
use Rattle.liquid_core.specs.declared.frame.Scope.{Scope}
use Rattle.liquid_model.specs.Texts.{Text, ◌else◌}
use Rattle.liquid_model.specs.Data.{Datum, nil, truth, text}
use Rattle.liquid_model.specs.Find.{step}
use Rattle.liquid_model.specs.Maps.{Map, insert, empty, merged}
use Rattle.liquid_model.specs.View.{view}
use Rattle.liquid_model.specs.declared.value.Value.{Value}
use Rattle.liquid_core.specs.Loops.{loop_scope, count}

pub item_within : (vs : List Value) (i : ℕ) (d : Value) → i < length vs → view (get_or vs i d) ≡ get_or (map view vs) i nil
item_within [] i d h = absurd (omega arith)
item_within (v ∷ vs) zero d h = refl
item_within (v ∷ vs) (suc i) d h = item_within vs i d (omega arith)

turned : (n q : Text) (b : Bool) → bytes_eq q n ≡ b → bytes_eq n q ≡ b
turned n q true h = (bytes_eq-Decides n q).1 (sym ((bytes_eq-Decides q n).0 h))
turned n q false h = other (bytes_eq n q) refl
  where
    other : (b : Bool) → bytes_eq n q ≡ b → bytes_eq n q ≡ false
    other false k = k
    other true k = absurd (no ((bytes_eq-Decides q n).1 (sym ((bytes_eq-Decides n q).0 k))))
      where
        no : bytes_eq q n ≡ true → ⊥
        no l = cc

pub the_variable : (l n q : Text) (v d : Datum) → bytes_eq q n ≡ true → loop_scope l v n d q ≡ Some d
unfolding insert
the_variable l n q v d h = rw (turned n q true h) refl

pub the_object : (l n q : Text) (v d : Datum) → bytes_eq q n ≡ false → bytes_eq q l ≡ true → loop_scope l v n d q ≡ Some v
unfolding insert
the_object l n q v d h k = rw (turned n q false h, turned l q true k) refl

pub neither : (l n q : Text) (v d : Datum) → bytes_eq q n ≡ false → bytes_eq q l ≡ false → loop_scope l v n d q ≡ None
unfolding insert empty
neither l n q v d h k = rw (turned n q false h, turned l q false k) refl

pub borrowed_name_found : (n q : Text) (d : Datum) → bytes_eq q n ≡ true → insert empty n d q ≡ Some d
unfolding insert
borrowed_name_found n q d h = rw (turned n q true h) refl

pub borrowed_name_missing : (n q : Text) (d : Datum) → bytes_eq q n ≡ false → insert empty n d q ≡ None
unfolding insert empty
borrowed_name_missing n q d h = rw (turned n q false h) refl

-- ---- the innermost of some scopes

one_more : (i : ℕ) → suc i + 1 ≡ suc (i + 1)
one_more i = omega arith

item_there : {X : Type 0} (ts : List X) (i : ℕ) → i < length ts → (x : X) × ((drop i ts ≡ x ∷ drop (i + 1) ts) × (take (i + 1) ts ≡ take i ts ++ x ∷ []))
item_there [] i h = absurd (omega arith)
item_there (t ∷ ts) zero h = (t, (refl, refl))
item_there (t ∷ ts) (suc i) h =
    let more = item_there ts i (omega arith) in
    (more.0, (more.1.0 ∙ ap (λ n. more.0 ∷ drop n (t ∷ ts)) (sym (one_more i)), ap (λ n. take n (t ∷ ts)) (one_more i) ∙ ap (λ l. t ∷ l) more.1.1))

at_innermost : (q : Text) (ts : List Scope) (x : Scope) (b : List (Map Datum)) → local_of (scope_maps (ts ++ x ∷ []) b) q ≡ (scope_map x (local_of (scope_maps ts b)) q else local_of (scope_maps ts b) q)
unfolding merged
at_innermost q ts x b = ap (λ l. local_of l q) (standing_last ts x b)

pub found_here : (q : Text) (ts : List Scope) (l i : ℕ) (b : List (Map Datum)) (d : Datum) → l ≡ i + 1 → i < length ts
    → ((x : Scope) → drop i ts ≡ x ∷ drop (i + 1) ts → Some d ≡ scope_map x (local_of (scope_maps (take i ts) b)) q) → Some d ≡ local_of (scope_maps (take l ts) b) q
found_here q ts l i b d e h f =
    let x = item_there ts i h in
    ap (λ o. o else local_of (scope_maps (take i ts) b) q) (f x.0 x.1.0) ∙ sym (at_innermost q (take i ts) x.0 b) ∙ ap (λ l. local_of (scope_maps l b) q) (sym x.1.1) ∙ ap (λ n. local_of (scope_maps (take n ts) b) q) (sym e)

pub missing_here : (q : Text) (ts : List Scope) (l i : ℕ) (b : List (Map Datum)) → l ≡ i + 1 → i < length ts
    → ((x : Scope) → drop i ts ≡ x ∷ drop (i + 1) ts → None ≡ scope_map x (local_of (scope_maps (take i ts) b)) q) → local_of (scope_maps (take i ts) b) q ≡ local_of (scope_maps (take l ts) b) q
missing_here q ts l i b e h f =
    let x = item_there ts i h in
    ap (λ o. o else local_of (scope_maps (take i ts) b) q) (f x.0 x.1.0) ∙ sym (at_innermost q (take i ts) x.0 b) ∙ ap (λ l. local_of (scope_maps l b) q) (sym x.1.1) ∙ ap (λ n. local_of (scope_maps (take n ts) b) q) (sym e)

pub apart : (q k : Text) → (q ≡ k → ⊥) → bytes_eq q k ≡ false
apart q k other = at (bytes_eq q k) refl
  where
    at : (b : Bool) → bytes_eq q k ≡ b → bytes_eq q k ≡ false
    at false h = h
    at true h = absurd (other ((bytes_eq-Decides q k).0 h))

-- ---- the parts that each loop's object has

module _ (k m : ℕ) (local : Map Datum) where
  pub part_length : (kind : LoopKind) → object_part (loop_object kind k m local) (codes "length") ≡ Some (count m)
  part_length (kinds.For elsewhere) = refl
  part_length kinds.Render = refl
  part_length (kinds.TableRow columns) = refl

  pub part_index0 : (kind : LoopKind) → object_part (loop_object kind k m local) (codes "index0") ≡ Some (count k)
  part_index0 (kinds.For elsewhere) = refl
  part_index0 kinds.Render = refl
  part_index0 (kinds.TableRow columns) = refl

  pub part_index : (kind : LoopKind) → object_part (loop_object kind k m local) (codes "index") ≡ Some (count (k + 1))
  part_index (kinds.For elsewhere) = refl
  part_index kinds.Render = refl
  part_index (kinds.TableRow columns) = refl

  pub part_rindex0 : (kind : LoopKind) → object_part (loop_object kind k m local) (codes "rindex0") ≡ Some (count (m - k - 1))
  part_rindex0 (kinds.For elsewhere) = refl
  part_rindex0 kinds.Render = refl
  part_rindex0 (kinds.TableRow columns) = refl

  pub part_rindex : (kind : LoopKind) → object_part (loop_object kind k m local) (codes "rindex") ≡ Some (count (m - k))
  part_rindex (kinds.For elsewhere) = refl
  part_rindex kinds.Render = refl
  part_rindex (kinds.TableRow columns) = refl

  pub part_first : (kind : LoopKind) → object_part (loop_object kind k m local) (codes "first") ≡ Some (truth (k == 0))
  part_first (kinds.For elsewhere) = refl
  part_first kinds.Render = refl
  part_first (kinds.TableRow columns) = refl

  pub part_of_text : (kind : LoopKind) (name : Text) → object_part (loop_object kind k m local) name ≡ step (loop_object kind k m local) (text name)
  part_of_text (kinds.For elsewhere) name = refl
  part_of_text kinds.Render name = refl
  part_of_text (kinds.TableRow columns) name = refl

  pub part_last : (kind : LoopKind) → object_part (loop_object kind k m local) (codes "last") ≡ Some (truth (k + 1 == m))
  part_last (kinds.For elsewhere) = refl
  part_last kinds.Render = refl
  part_last (kinds.TableRow columns) = refl

-- ---- the innermost loop

pub innermost : (ss before : List Scope) (t : LoopFrame) → EndsIn ss before t → length ss - 1 ≡ length before
innermost ss before t e = ap (λ l. length l - 1) e ∙ ap (λ n. n - 1) (length-append before (variants.LoopFrame t ∷ [])) ∙ one_less (length before)
  where
    one_less : (n : ℕ) → n + 1 - 1 ≡ n
    one_less n = omega arith

pub innermost_is : (ss before : List Scope) (t : LoopFrame) (d : Scope) → EndsIn ss before t → get_or ss (length ss - 1) d ≡ variants.LoopFrame t
innermost_is ss before t d e = ap (λ n. get_or ss n d) (innermost ss before t e) ∙ ap (λ l. get_or l (length before) d) e ∙ get_or-append_seam before (variants.LoopFrame t) [] d

pub innermost_set : (ss before : List Scope) (t : LoopFrame) (s : Scope) → EndsIn ss before t → set ss (length ss - 1) s ≡ before ++ s ∷ []
innermost_set ss before t s e = ap (λ n. set ss n s) (innermost ss before t e) ∙ ap (λ l. set l (length before) s) e ∙ set-append_seam before (variants.LoopFrame t) [] s

-- the loop that a scope is
abbrev pub turn_in : Scope → LoopFrame → LoopFrame
turn_in (variants.LoopFrame t) other = t
turn_in (variants.Names o) other = other
turn_in (variants.Borrowed name v) other = other
