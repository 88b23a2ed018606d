use Rattle.std.proofs.Common.{rules, ◌≡◌, length, ◌+◌, ◌-◌, ◌<◌, Bool, true, false, ◌&&◌, refl, sym, ap, ◌∙◌, subst, arith}
use Rattle.liquid_syntax.specs.Flats.{flat_of}
use Rattle.liquid_syntax.specs.Forest.{Forest, Bodies, empty}
use Rattle.liquid_syntax.specs.Laid.{IsLaidOut, StandBodies, last_end}
use Rattle.liquid_syntax.specs.declared.node.Node.{Node}
use Rattle.liquid_syntax.specs.inside.BlankNodes.{IsOwnRange, is_heard_as, own_flats, quiet, quiet_bodies, sound_of}
use Rattle.liquid_syntax.proofs.Tidied.{own_within, own_read, own_bodies, own_ends, heard, heard_loud, heard_silent, heard_bodies, quiet_joined, bodies_stand}
use Rattle.liquid_syntax.proofs.Places.{nothing_left}
use Rattle.liquid_syntax.proofs.Round.{joined}
use Rattle.liquid_syntax.proofs.blanks.+is_quiet.Goals as goal
use Rattle.liquid_syntax.proofs.blanks.+is_quiet.Goals.{in-Loud, in-Silent, in-OfBodies}

pub offset_bounds-nodes-at : goal.offset_bounds-nodes-at
offset_bounds-nodes-at t c =
    let (f, stands) = c.loop-at.invariant.left in
    let lt : c.loop-at.at < length c.args.nodes.now = own_within c.args.nodes.now c.loop-at.at f c.args.to stands c.loop-at-test.true in
    search rules

pub bounds-nodes-at : goal.bounds-nodes-at
bounds-nodes-at t c =
    let (f, stands) = c.loop-at.invariant.left in
    own_within c.args.nodes.now c.loop-at.at f c.args.to stands c.loop-at-test.true

pub is_quiet-goes_on-requires : goal.is_quiet-goes_on-requires
is_quiet-goes_on-requires t c =
    let n = c.index-nodes-at.result in
    let ns = c.args.nodes.now in
    let (f, stands) = c.loop-at.invariant.left in
    let begins = own_read ns c.loop-at.at f c.args.to n c.index-nodes-at.is c.loop-at-test.true stands in
    let ends = own_ends ns c.loop-at.at f c.args.to n begins in
    let e = c.past-end.ensures in
    let small : c.past-end.result - (c.loop-at.at + 1) < c.args.to - c.args.from = omega (arith, e, ends.0, ends.1, c.loop-at.invariant.begun, c.loop-at-test.true) in (
      search (rules, arith),
      subst (IsOwnRange ns (c.loop-at.at + 1)) (sym e) (own_bodies ns c.loop-at.at f c.args.to n begins),
    )

pub returns-then-not-goes_on : goal.returns-then-not-goes_on
returns-then-not-goes_on t c f whole =
    let n = c.index-nodes-at.result in
    let ns = c.args.nodes.now in
    let (g, stands, is) = c.loop-at.invariant.whole f whole in
    let begins = own_read ns c.loop-at.at g c.args.to n c.index-nodes-at.is c.loop-at-test.true stands in
    let said : (bs : Bodies Node) → StandBodies (own_flats ns) (c.loop-at.at + 1) (flat_of n).ends bs → is_heard_as (sound_of n) (quiet_bodies bs) ≡ c.match-sound_from.goes_on =
    elim c.match-sound_from.branch [
      | in-Loud w ↦ λ bs s. heard_loud n (sym c.sound_from.ensures ∙ w.in-Loud.is) (quiet_bodies bs) ∙ sym w.goes_on-is
      | in-Silent w ↦ λ bs s. heard_silent n (sym c.sound_from.ensures ∙ w.in-Silent.is) (quiet_bodies bs) ∙ sym w.goes_on-is
      | in-OfBodies w ↦ λ bs s. heard_bodies n (sym c.sound_from.ensures ∙ w.in-OfBodies.is) (quiet_bodies bs)
          ∙ sym (w.goes_on-is ∙ w.is_quiet-goes_on.ensures (joined bs) (subst (IsLaidOut (own_flats ns) (c.loop-at.at + 1) (joined bs)) (sym c.past-end.ensures) (bodies_stand (own_flats ns) (c.loop-at.at + 1) (flat_of n).ends bs s)) ∙ quiet_joined bs)
    ] in
    let (rest, after, whole_is) = heard ns c.loop-at.at g c.args.to n c.match-sound_from.goes_on begins said in
    sym (is ∙ whole_is ∙ ap (λ b. b && quiet rest) c.if-not-goes_on.true)

pub loop-at-smaller : goal.loop-at-smaller
loop-at-smaller t c =
    let n = c.index-nodes-at.result in
    let ns = c.args.nodes.now in
    let (f, stands) = c.loop-at.invariant.left in
    let begins = own_read ns c.loop-at.at f c.args.to n c.index-nodes-at.is c.loop-at-test.true stands in
    let ends = own_ends ns c.loop-at.at f c.args.to n begins in
    let e = c.past-end.ensures in
    let small : c.args.to - c.past-end.result < c.args.to - c.loop-at.at = omega (arith, e, ends.0, ends.1, c.loop-at-test.true) in
    small

pub loop-at-preserved : goal.loop-at-preserved
loop-at-preserved t c =
    let n = c.index-nodes-at.result in
    let ns = c.args.nodes.now in
    let (f, stands) = c.loop-at.invariant.left in
    let begins = own_read ns c.loop-at.at f c.args.to n c.index-nodes-at.is c.loop-at-test.true stands in
    let ends = own_ends ns c.loop-at.at f c.args.to n begins in
    let e = c.past-end.ensures in
    let said : (bs : Bodies Node) → StandBodies (own_flats ns) (c.loop-at.at + 1) (flat_of n).ends bs → is_heard_as (sound_of n) (quiet_bodies bs) ≡ c.match-sound_from.goes_on =
    elim c.match-sound_from.branch [
      | in-Loud w ↦ λ bs s. heard_loud n (sym c.sound_from.ensures ∙ w.in-Loud.is) (quiet_bodies bs) ∙ sym w.goes_on-is
      | in-Silent w ↦ λ bs s. heard_silent n (sym c.sound_from.ensures ∙ w.in-Silent.is) (quiet_bodies bs) ∙ sym w.goes_on-is
      | in-OfBodies w ↦ λ bs s. heard_bodies n (sym c.sound_from.ensures ∙ w.in-OfBodies.is) (quiet_bodies bs)
          ∙ sym (w.goes_on-is ∙ w.is_quiet-goes_on.ensures (joined bs) (subst (IsLaidOut (own_flats ns) (c.loop-at.at + 1) (joined bs)) (sym c.past-end.ensures) (bodies_stand (own_flats ns) (c.loop-at.at + 1) (flat_of n).ends bs s)) ∙ quiet_joined bs)
    ] in
    let later : (g : Forest Node) → IsLaidOut (own_flats ns) c.loop-at.at g c.args.to → (rest : Forest Node) × IsLaidOut (own_flats ns) c.past-end.result rest c.args.to × (quiet g ≡ quiet rest) =
    λ g there.
    let (rest, after, is) = heard ns c.loop-at.at g c.args.to n c.match-sound_from.goes_on (own_read ns c.loop-at.at g c.args.to n c.index-nodes-at.is c.loop-at-test.true there) said in
    (rest, subst (λ k. IsLaidOut (own_flats ns) k rest c.args.to) (sym e) after, is ∙ ap (λ b. b && quiet rest) c.if-not-goes_on.false)
    in
    record {
      begun = omega (arith, e, ends.0, c.loop-at.invariant.begun);
      left = let (rest, after, is) = later f stands in (rest, after);
      whole = λ h whole. let (g, there, same) = c.loop-at.invariant.whole h whole in let (rest, after, is) = later g there in (rest, after, same ∙ is);
    }

pub returns : goal.returns
returns t c f whole =
    let (g, stands, is) = c.loop-at.invariant.whole f whole in
    let none : g ≡ empty = nothing_left (own_flats c.args.nodes.now) c.loop-at.at g c.args.to stands (omega (arith, c.loop-at-test.false)) in
    sym (is ∙ ap quiet none)
