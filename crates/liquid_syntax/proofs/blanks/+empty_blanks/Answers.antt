use Rattle.std.proofs.Common.{rules, ◌≡◌, length, nat_eq, ◌+◌, ◌-◌, ◌<◌, ◌≤◌, true, false, ◌&&◌, Some, inl, inr, refl, sym, ap, ◌∙◌, subst, arith}
use Rattle.std.proofs.lemmas.Option.{slice_get_read}
use Rattle.std.specs.Prelude.{slice_get}
use Rattle.liquid_syntax.specs.Flats.{flat_of, flats}
use Rattle.liquid_syntax.specs.Forest.{Forest, Bodies, empty}
use Rattle.liquid_syntax.specs.Laid.{IsLaidOut, StandBodies, last_end}
use Rattle.liquid_syntax.specs.declared.node.Node.{Node}
use Rattle.liquid_syntax.specs.inside.BlankNodes.{IsCleared, IsOwnRange, ends_in_if, is_empty, is_if, is_silent, own_flats, tidied_all}
use Rattle.liquid_syntax.proofs.Elsifs.{left_by_place}
use Rattle.liquid_syntax.proofs.Emptied.{IsTurned, turned, unturned, still, range_left, same_past, agree_before, node_done}
use Rattle.liquid_syntax.proofs.Places.{Stands-le, nothing_left}
use Rattle.liquid_syntax.proofs.Tidied.{own_ends, own_read, own_within}
use Rattle.liquid_syntax.proofs.blanks.+empty_blanks.Goals as goal
use Rattle.liquid_syntax.proofs.blanks.+empty_blanks.Goals.{then-in_silence, else-in_silence, then-is_elsif, else-is_elsif, then-with_elsif, else-with_elsif}

pub offset_bounds-nodes-at : goal.offset_bounds-nodes-at
offset_bounds-nodes-at t c =
    let (f, stands) = c.loop-at.invariant.left in
    let lt : c.loop-at.at < length c.loop-at.nodes = own_within c.loop-at.nodes c.loop-at.at f c.args.to (still c.args.nodes.now c.loop-at.nodes c.args.from c.loop-at.at f c.args.to c.loop-at.invariant.same stands) c.loop-at-test.true in
    search rules

pub bounds-nodes-at : goal.bounds-nodes-at
bounds-nodes-at t c =
    let (f, stands) = c.loop-at.invariant.left in
    own_within c.loop-at.nodes c.loop-at.at f c.args.to (still c.args.nodes.now c.loop-at.nodes c.args.from c.loop-at.at f c.args.to c.loop-at.invariant.same stands) c.loop-at-test.true

pub offset_bounds-nodes-at-then-in_silence : goal.offset_bounds-nodes-at-then-in_silence
offset_bounds-nodes-at-then-in_silence t c =
    let (f, stands) = c.loop-at.invariant.left in
    let lt : c.loop-at.at < length c.loop-at.nodes = own_within c.loop-at.nodes c.loop-at.at f c.args.to (still c.args.nodes.now c.loop-at.nodes c.args.from c.loop-at.at f c.args.to c.loop-at.invariant.same stands) c.loop-at-test.true in
    search rules

pub bounds-nodes-at-then-in_silence : goal.bounds-nodes-at-then-in_silence
bounds-nodes-at-then-in_silence t c =
    let (f, stands) = c.loop-at.invariant.left in
    own_within c.loop-at.nodes c.loop-at.at f c.args.to (still c.args.nodes.now c.loop-at.nodes c.args.from c.loop-at.at f c.args.to c.loop-at.invariant.same stands) c.loop-at-test.true

pub is_silent_block-is_silent-requires : goal.is_silent_block-is_silent-requires
is_silent_block-is_silent-requires t c =
    let ns = c.loop-at.nodes in
    let at = c.loop-at.at in
    let n = c.index-nodes-at.result in
    let (f, stands) = c.loop-at.invariant.left in
    let here = still c.args.nodes.now ns c.args.from at f c.args.to c.loop-at.invariant.same stands in
    let lt : at < length ns = own_within ns at f c.args.to here c.loop-at-test.true in
    let (bs, rest, is, inner, after) = own_read ns at f c.args.to n c.index-nodes-at.is c.loop-at-test.true here in
    (n, bs, slice_get_read ns (length ns) at n refl lt c.index-nodes-at.is, inner)

pub ends_in_elsif-goes_on-requires : goal.ends_in_elsif-goes_on-requires
ends_in_elsif-goes_on-requires t c =
    let ns = c.loop-at.nodes in
    let at = c.loop-at.at in
    let n = c.index-nodes-at.result in
    let (f, stands) = c.loop-at.invariant.left in
    let here = still c.args.nodes.now ns c.args.from at f c.args.to c.loop-at.invariant.same stands in
    let lt : at < length ns = own_within ns at f c.args.to here c.loop-at-test.true in
    let (bs, rest, is, inner, after) = own_read ns at f c.args.to n c.index-nodes-at.is c.loop-at-test.true here in
    (n, bs, slice_get_read ns (length ns) at n refl lt c.index-nodes-at.is, inner)

pub empty_blanks-requires : goal.empty_blanks-requires
empty_blanks-requires t c =
    let old = c.args.nodes.now in
    let ns = c.loop-at.nodes in
    let at = c.loop-at.at in
    let n = c.index-nodes-at.result in
    let (f, stands) = c.loop-at.invariant.left in
    let here = still old ns c.args.from at f c.args.to c.loop-at.invariant.same stands in
    let begins = own_read ns at f c.args.to n c.index-nodes-at.is c.loop-at-test.true here in
    let lt : at < length ns = own_within ns at f c.args.to here c.loop-at-test.true in
    let there : slice_get ns at ≡ Some n = slice_get_read ns (length ns) at n refl lt c.index-nodes-at.is in
    let e : c.past-end.result ≡ last_end (at + 1) (flat_of n).ends = c.past-end.ensures ∙ ap (λ m. last_end (at + 1) (flat_of m).ends) (sym c.index-nodes-at.is) in
    let ends = own_ends ns at f c.args.to n begins in
    let ms = c.if-in_silence.nodes in
    let turn : IsTurned c.args.in_silence at n ns ms =
    elim c.if-in_silence.branch [
      | then-in_silence w ↦ subst (λ b. IsTurned b at n ns ms) (sym w.if-in_silence.true) (turned at n w.index-nodes-at-then-in_silence.result w.clear.new.node ns ms there lt w.index-nodes-at-then-in_silence.is w.nodes-is (subst (λ k. IsCleared k w.clear.new.node) (sym w.index-nodes-at-then-in_silence.is) w.clear.ensures))
      | else-in_silence w ↦ subst (λ b. IsTurned b at n ns ms) (sym w.if-in_silence.false) (unturned at n ns ms there w.nodes-is)
    ] in
    let small : c.past-end.result - (at + 1) < c.args.to - c.args.from = omega (arith, e, ends.0, ends.1, c.loop-at.invariant.begun, c.loop-at-test.true) in (
      search (rules, arith),
      subst (IsOwnRange ms (at + 1)) (sym e) (range_left c.args.in_silence at f c.args.to n ns ms turn begins),
    )

pub loop-at-smaller : goal.loop-at-smaller
loop-at-smaller t c =
    let old = c.args.nodes.now in
    let ns = c.loop-at.nodes in
    let at = c.loop-at.at in
    let n = c.index-nodes-at.result in
    let (f, stands) = c.loop-at.invariant.left in
    let here = still old ns c.args.from at f c.args.to c.loop-at.invariant.same stands in
    let begins = own_read ns at f c.args.to n c.index-nodes-at.is c.loop-at-test.true here in
    let e : c.past-end.result ≡ last_end (at + 1) (flat_of n).ends = c.past-end.ensures ∙ ap (λ m. last_end (at + 1) (flat_of m).ends) (sym c.index-nodes-at.is) in
    let ends = own_ends ns at f c.args.to n begins in
    let small : c.args.to - c.past-end.result < c.args.to - at = omega (arith, e, ends.0, ends.1, c.loop-at-test.true) in
    small

pub loop-at-preserved : goal.loop-at-preserved
loop-at-preserved t c =
    let old = c.args.nodes.now in
    let ns = c.loop-at.nodes in
    let at = c.loop-at.at in
    let n = c.index-nodes-at.result in
    let (f, stands) = c.loop-at.invariant.left in
    let here = still old ns c.args.from at f c.args.to c.loop-at.invariant.same stands in
    let begins = own_read ns at f c.args.to n c.index-nodes-at.is c.loop-at-test.true here in
    let lt : at < length ns = own_within ns at f c.args.to here c.loop-at-test.true in
    let there : slice_get ns at ≡ Some n = slice_get_read ns (length ns) at n refl lt c.index-nodes-at.is in
    let e : c.past-end.result ≡ last_end (at + 1) (flat_of n).ends = c.past-end.ensures ∙ ap (λ m. last_end (at + 1) (flat_of m).ends) (sym c.index-nodes-at.is) in
    let ends = own_ends ns at f c.args.to n begins in
    let ms = c.if-in_silence.nodes in
    let turn : IsTurned c.args.in_silence at n ns ms =
    elim c.if-in_silence.branch [
      | then-in_silence w ↦ subst (λ b. IsTurned b at n ns ms) (sym w.if-in_silence.true) (turned at n w.index-nodes-at-then-in_silence.result w.clear.new.node ns ms there lt w.index-nodes-at-then-in_silence.is w.nodes-is (subst (λ k. IsCleared k w.clear.new.node) (sym w.index-nodes-at-then-in_silence.is) w.clear.ensures))
      | else-in_silence w ↦ subst (λ b. IsTurned b at n ns ms) (sym w.if-in_silence.false) (unturned at n ns ms there w.nodes-is)
    ] in
    let past = c.past-end.result in
    let us = c.empty_blanks.new.nodes in
    let silent = c.if-is_elsif.is_silent in
    let at_past : at < past = omega (arith, e, ends.0) in
    let goes_on = c.ends_in_elsif-goes_on.result in
    let is_elsif_is : c.if-with_elsif.is_elsif ≡ (c.args.with_elsif && nat_eq past c.args.to) =
    elim c.if-with_elsif.branch [
      | then-with_elsif w ↦ w.is_elsif-is ∙ sym (ap (λ b. b && nat_eq past c.args.to) w.if-with_elsif.true)
      | else-with_elsif w ↦ w.is_elsif-is ∙ w.if-with_elsif.false ∙ sym (ap (λ b. b && nat_eq past c.args.to) w.if-with_elsif.false)
    ] in
    let taken : (rest : Forest Node) → IsLaidOut (own_flats ns) past rest c.args.to → c.if-with_elsif.is_elsif ≡ (c.args.with_elsif && is_empty rest) =
    λ rest after. is_elsif_is ∙ ap (λ b. c.args.with_elsif && b) (left_by_place (own_flats ns) past rest c.args.to after) in
    let silence : (bs : Bodies Node) (rest : Forest Node) → StandBodies (own_flats ns) (at + 1) (flat_of n).ends bs → IsLaidOut (own_flats ns) past rest c.args.to → silent ≡ is_silent c.args.in_silence (c.args.with_elsif && is_empty rest) n bs =
    elim c.if-is_elsif.branch [
      | then-is_elsif w ↦ λ bs rest s after. w.is_silent-is ∙ sym (ap (λ b. is_silent c.args.in_silence b n bs) (sym (taken rest after) ∙ w.if-is_elsif.true))
      | else-is_elsif w ↦ λ bs rest s after. w.is_silent-is ∙ w.is_silent_block-is_silent.ensures n bs there s ∙ sym (ap (λ b. is_silent c.args.in_silence b n bs) (sym (taken rest after) ∙ w.if-is_elsif.false))
    ] in
    let goes_on_is : (bs : Bodies Node) → StandBodies (own_flats ns) (at + 1) (flat_of n).ends bs → goes_on ≡ (is_if n && ends_in_if bs) = λ bs s. c.ends_in_elsif-goes_on.ensures n bs there s in
    let done = node_done old ns ms us c.args.from at past c.args.to c.args.in_silence c.args.with_elsif silent goes_on n c.loop-at.invariant.begun there e c.loop-at.invariant.same turn c.empty_blanks.ensures.laid c.empty_blanks.ensures.same at_past silence goes_on_is in
    let before = agree_before old ns ms us c.args.from at past c.args.to c.args.in_silence c.args.with_elsif silent goes_on n c.loop-at.invariant.begun there e c.loop-at.invariant.same turn c.empty_blanks.ensures.laid c.empty_blanks.ensures.same at_past silence goes_on_is in
    record {
      begun = omega (arith, at_past, c.loop-at.invariant.begun);
      left = let (rest, later, go) = done f c.loop-at-test.true stands in (rest, later);
      whole = λ h whole.
          let (g, stood, goes) = c.loop-at.invariant.whole h whole in
          let (rest, later, go) = done g c.loop-at-test.true stood in
          (rest, later, λ fs agree left. goes fs (before fs agree) (go fs agree left));
      same = same_past old ns ms us c.args.from at past c.args.to c.args.in_silence c.args.with_elsif silent goes_on n c.loop-at.invariant.begun there e c.loop-at.invariant.same turn c.empty_blanks.ensures.laid c.empty_blanks.ensures.same at_past silence goes_on_is;
      long = c.empty_blanks.ensures.length ∙ turn.long ∙ c.loop-at.invariant.long;
    }

pub returns-clause-laid : goal.returns-clause-laid
returns-clause-laid t c f whole =
    let (g, there, goes_on) = c.loop-at.invariant.whole f whole in
    let none : g ≡ empty = nothing_left (own_flats c.args.nodes.now) c.loop-at.at g c.args.to there (omega (arith, c.loop-at-test.false)) in
    goes_on (flats c.loop-at.nodes) (λ i le lt. refl) (subst (λ h. IsLaidOut (flats c.loop-at.nodes) c.loop-at.at (tidied_all c.args.in_silence c.args.with_elsif h) c.args.to) (sym none) (subst (λ h. IsLaidOut (own_flats c.args.nodes.now) c.loop-at.at h c.args.to) none there))

pub returns-clause-same : goal.returns-clause-same
returns-clause-same t c i (inl lt) = c.loop-at.invariant.same i (inl lt)
returns-clause-same t c i (inr le) =
    let (g, there) = c.loop-at.invariant.left in
    let ends : c.loop-at.at ≤ c.args.to = Stands-le (own_flats c.args.nodes.now) c.loop-at.at g c.args.to there in
    c.loop-at.invariant.same i (inr (omega (arith, ends, le)))
