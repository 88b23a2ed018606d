-- What becomes of a list of nodes when the texts of blocks that write nothing are emptied, one node after another.
use Rattle.std.proofs.lemmas.List.{length-set, get_or-set_same, get_or-set_other}
use Rattle.std.proofs.lemmas.Option.{slice_get-get_or, slice_get-map, slice_get_past, slice_get_read}
use Rattle.std.proofs.lemmas.Bool.{ltb-true, ltb-false}
use Rattle.std.proofs.Common.{◌≡◌, ℕ, ◌+◌, ◌<◌, ◌≤◌, Bool, true, false, ◌&&◌, ◌⊎◌, List, length, map, get_or, nat_lt, Some, option_map, inl, inr, refl, sym, ap, ◌∙◌, subst, arith}
use Rattle.std.specs.Prelude.{◌≢◌, slice_get, slice_set}
use Rattle.liquid_syntax.specs.Flats.{Maker, flat_of, flats}
use Rattle.liquid_syntax.specs.Forest.{Forest, Bodies, node}
use Rattle.liquid_syntax.specs.Laid.{Flat, IsLaidOut, StandBodies, last_end}
use Rattle.liquid_syntax.specs.declared.node.Node.{Node}
use Rattle.liquid_syntax.specs.declared.node.Node.TheVariants.{Text as Plain, Output, Assign, Raw, Comment, If, Unless, Capture, Case, For, TableRow, Break, Continue, Increment, Decrement, Cycle, IfChanged, Filtered, Include, JekyllInclude, Render, RenderEach}
use Rattle.liquid_syntax.specs.inside.BlankNodes.{AreSameOutside, IsCleared, IsOwnRange, cleared, ends_in_if, is_empty, is_if, is_silent, own_flat, own_flats, tidied_all, tidied_bodies}
use Rattle.liquid_syntax.proofs.Round.{joined}
use Rattle.liquid_syntax.proofs.Tidied.{Agree, Begins, own_first, bodies_stand, bodies_there, bodies_tidied, stands_there}

-- ---- a node that is written into a list

written : (l : List Node) (i : ℕ) (n : Node) → i < length l → slice_get (slice_set l i n) i ≡ Some n
written l i n lt = slice_get_read (slice_set l i n) (length l) i n (sym (length-set l i n)) lt (sym (get_or-set_same l i n n lt))

unwritten : (l : List Node) (i j : ℕ) (n : Node) → j ≢ i → slice_get (slice_set l i n) j ≡ slice_get l j
unwritten l i j n other = on (nat_lt j (length l)) refl
  where
    on : (b : Bool) → nat_lt j (length l) ≡ b → slice_get (slice_set l i n) j ≡ slice_get l j
    on true e =
        let lt = ltb-true j (length l) e in
        slice_get-get_or (slice_set l i n) j n (subst (λ m. j < m) (sym (length-set l i n)) lt) ∙ ap Some (get_or-set_other l i j n n other) ∙ sym (slice_get-get_or l j n lt)
    on false e =
        let le = ltb-false j (length l) e in
        slice_get_past (slice_set l i n) j (subst (λ m. m ≤ j) (sym (length-set l i n)) le) ∙ sym (slice_get_past l j le)

-- one node is as it is to be, and all others are as they were
pub record IsTurned (drop : Bool) (at : ℕ) (n : Node) (ns ms : List Node) : Type 0 where
  pub now : Node
  pub there : slice_get ms at ≡ Some now
  pub shape : flat_of now ≡ record { head = cleared drop n; ends = (flat_of n).ends }
  pub others : AreSameOutside at (at + 1) ns ms
  pub long : length ms ≡ length ns

-- what is read twice is the same
pub read_twice : (ns : List Node) (at : ℕ) (n m : Node) → at < length ns → slice_get ns at ≡ Some n → m ≡ get_or ns at m → m ≡ n
read_twice ns at n m lt there is = let e : Some m ≡ Some n = sym (slice_get_read ns (length ns) at m refl lt is) ∙ there in cc

pub turned : (at : ℕ) (n old m : Node) (ns ms : List Node) → slice_get ns at ≡ Some n → at < length ns → old ≡ get_or ns at old → ms ≡ slice_set ns at m → IsCleared old m → IsTurned true at n ns ms
turned at n old m ns ms there lt read is clear = record {
  now = m;
  there = ap (λ l. slice_get l at) is ∙ written ns at m lt;
  shape = subst (λ k. IsCleared k m) (read_twice ns at n old lt there read) clear;
  others = λ i outside. ap (λ l. slice_get l i) is ∙ unwritten ns at i m (apart i outside);
  long = ap length is ∙ length-set ns at m;
}
  where
    apart : (i : ℕ) → (i < at) ⊎ (at + 1 ≤ i) → i ≢ at
    apart i (inl lt) e = absurd (omega (arith, lt, e))
    apart i (inr le) e = absurd (omega (arith, le, e))

-- a node that isn't cleared
uncleared : (n : Node) → flat_of n ≡ record { head = cleared false n; ends = (flat_of n).ends }
uncleared (Plain t) = refl
uncleared (Output chain) = refl
uncleared (Assign name chain) = refl
uncleared (Raw t) = refl
uncleared Comment = refl
uncleared (If condition bodies) = refl
uncleared (Unless condition bodies) = refl
uncleared (Capture name end) = refl
uncleared (Case target arms end) = refl
uncleared (For f bodies) = refl
uncleared (TableRow r end) = refl
uncleared Break = refl
uncleared Continue = refl
uncleared (Increment name) = refl
uncleared (Decrement name) = refl
uncleared (Cycle group values) = refl
uncleared (IfChanged end) = refl
uncleared (Filtered filters end) = refl
uncleared (Include name pairs) = refl
uncleared (JekyllInclude name pairs) = refl
uncleared (Render name pairs) = refl
uncleared (RenderEach name each pairs) = refl

pub unturned : (at : ℕ) (n : Node) (ns ms : List Node) → slice_get ns at ≡ Some n → ms ≡ ns → IsTurned false at n ns ms
unturned at n ns ms there is = record {
  now = n;
  there = ap (λ l. slice_get l at) is ∙ there;
  shape = uncleared n;
  others = λ i outside. ap (λ l. slice_get l i) is;
  long = ap length is;
}

-- ---- what stands in lists that agree

seen : {B : Type 0} (f : Node → B) (ns ms : List Node) (i : ℕ) → slice_get ms i ≡ slice_get ns i → slice_get (map f ms) i ≡ slice_get (map f ns) i
seen f ns ms i e = slice_get-map f ms i ∙ ap (option_map f) e ∙ sym (slice_get-map f ns i)

-- what isn't reached yet stands as it did
pub still : (old ns : List Node) (from at : ℕ) (g : Forest Node) (to : ℕ) → AreSameOutside from at old ns → IsLaidOut (own_flats old) at g to → IsLaidOut (own_flats ns) at g to
still old ns from at g to same there = stands_there (own_flats old) (own_flats ns) at g to there (λ i le lt. seen own_flat old ns i (same i (inr le)))

-- the bodies of a node stand on where the node itself is turned
pub bodies_left : (drop : Bool) (at : ℕ) (n : Node) (ns ms : List Node) (es : List ℕ) (bs : Bodies Node) → IsTurned drop at n ns ms → StandBodies (own_flats ns) (at + 1) es bs → StandBodies (own_flats ms) (at + 1) es bs
bodies_left drop at n ns ms es bs turn there = bodies_there (own_flats ns) (own_flats ms) (at + 1) es bs there (λ i le lt. seen own_flat ns ms i (turn.others i (inr le)))

pub range_left : (drop : Bool) (at : ℕ) (f : Forest Node) (to : ℕ) (n : Node) (ns ms : List Node) → IsTurned drop at n ns ms → Begins ns at f to n → IsOwnRange ms (at + 1) (last_end (at + 1) (flat_of n).ends)
range_left drop at f to n ns ms turn (bs, rest, is, inner, after) = (joined bs, bodies_stand (own_flats ms) (at + 1) (flat_of n).ends bs (bodies_left drop at n ns ms (flat_of n).ends bs turn inner))

module _ (old ns ms us : List Node) (from at past to : ℕ) (drop chained silent last : Bool) (n : Node) (begun : from ≤ at) (there : slice_get ns at ≡ Some n) (is_past : past ≡ last_end (at + 1) (flat_of n).ends)
    (same : AreSameOutside from at old ns) (turn : IsTurned drop at n ns ms) (laid : (f : Forest Node) → IsLaidOut (own_flats ms) (at + 1) f past → IsLaidOut (flats us) (at + 1) (tidied_all silent last f) past)
    (inside : AreSameOutside (at + 1) past ms us) (at_past : at < past)
    (silence : (bs : Bodies Node) (rest : Forest Node) → StandBodies (own_flats ns) (at + 1) (flat_of n).ends bs → IsLaidOut (own_flats ns) past rest to → silent ≡ is_silent drop (chained && is_empty rest) n bs)
    (is_last : (bs : Bodies Node) → StandBodies (own_flats ns) (at + 1) (flat_of n).ends bs → last ≡ (is_if n && ends_in_if bs)) where
  -- nothing has changed but up to the end of the node
  pub same_past : AreSameOutside from past old us
  same_past i (inl lt) = inside i (inl (omega (arith, lt, begun))) ∙ turn.others i (inl (omega (arith, lt, begun))) ∙ same i (inl lt)
  same_past i (inr le) = inside i (inr le) ∙ turn.others i (inr (omega (arith, le, at_past))) ∙ same i (inr (omega (arith, le, at_past)))

  -- what was done before stands on
  pub agree_before : (fs : List (Flat Maker)) → Agree (flats us) fs from past → Agree (flats ns) fs from at
  agree_before fs agree i le lt =
      agree i le (omega (arith, lt, at_past)) ∙ seen flat_of ns us i (inside i (inl (omega (arith, lt))) ∙ turn.others i (inl lt))

  -- and the node that was turned, with its bodies, before what is left
  pub node_done : (g : Forest Node) → at < to → IsLaidOut (own_flats old) at g to
      → (rest : Forest Node) × IsLaidOut (own_flats old) past rest to × ((fs : List (Flat Maker)) → Agree (flats us) fs from past → IsLaidOut fs past (tidied_all drop chained rest) to → IsLaidOut fs at (tidied_all drop chained g) to)
  node_done g lt before =
      let es = (flat_of n).ends in
      let (bs, rest, is, inner, after) = own_first ns at g to n there lt (still old ns from at g to same before) in
      let end = last_end (at + 1) es in
      let later : IsLaidOut (own_flats old) end rest to = stands_there (own_flats ns) (own_flats old) end rest to after (λ i le l. seen own_flat ns old i (sym (same i (inr (omega (arith, le, is_past, at_past)))))) in
      let bodies : StandBodies (own_flats ms) (at + 1) es bs = bodies_left drop at n ns ms es bs turn inner in
      let done : IsLaidOut (flats us) (at + 1) (tidied_all silent last (joined bs)) end =
      subst (IsLaidOut (flats us) (at + 1) (tidied_all silent last (joined bs))) is_past (laid (joined bs) (subst (IsLaidOut (own_flats ms) (at + 1) (joined bs)) (sym is_past) (bodies_stand (own_flats ms) (at + 1) es bs bodies))) in
      let by_last : IsLaidOut (flats us) (at + 1) (tidied_all silent (is_if n && ends_in_if bs) (joined bs)) end = subst (λ b. IsLaidOut (flats us) (at + 1) (tidied_all silent b (joined bs)) end) (is_last bs inner) done in
      let same_silence = silence bs rest inner (subst (λ k. IsLaidOut (own_flats ns) k rest to) (sym is_past) after) in
      let silent_here = is_silent drop (chained && is_empty rest) n bs in
      let tidy : StandBodies (flats us) (at + 1) es (tidied_bodies silent_here (is_if n) bs) =
      subst (λ b. StandBodies (flats us) (at + 1) es (tidied_bodies b (is_if n) bs)) same_silence (bodies_tidied (own_flats ms) (flats us) silent (is_if n) (at + 1) es bs bodies by_last) in (
        rest,
        subst (λ k. IsLaidOut (own_flats old) k rest to) (sym is_past) later,
        λ fs agree left. subst (λ f. IsLaidOut fs at (tidied_all drop chained f) to) (sym is) (
          record { head = cleared drop n; ends = es },
          agree at begun at_past ∙ slice_get-map flat_of us at ∙ ap (option_map flat_of) (inside at (inl (omega arith)) ∙ turn.there) ∙ ap Some turn.shape,
          refl,
          bodies_there (flats us) fs (at + 1) es (tidied_bodies silent_here (is_if n) bs) tidy (λ i le l. agree i (omega (arith, le, begun)) (omega (arith, l, is_past))),
          subst (λ k. IsLaidOut fs k (tidied_all drop chained rest) to) is_past left,
        ),
      )
