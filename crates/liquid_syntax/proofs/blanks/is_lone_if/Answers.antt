use Rattle.std.proofs.Common.{rules, ◌<◌, ◌≤◌, length, sym, ap, arith}
use Rattle.liquid_syntax.specs.inside.BlankNodes.{is_lone_if, own_flats}
use Rattle.liquid_syntax.proofs.Elsifs.{lone_by_end, lone_other, other_if}
use Rattle.liquid_syntax.proofs.Places.{Stands-le, nothing_left}
use Rattle.liquid_syntax.proofs.Tidied.{own_read, own_within}
use Rattle.liquid_syntax.proofs.blanks.is_lone_if.Goals as goal

pub returns-then-from-to : goal.returns-then-from-to
returns-then-from-to c f s = sym (ap is_lone_if (nothing_left (own_flats c.args.nodes.now) c.args.from f c.args.to s (omega (arith, c.if-from-to.true))))

pub offset_bounds-nodes-from : goal.offset_bounds-nodes-from
offset_bounds-nodes-from c =
    let (f, s) = c.requires in
    let le : c.args.from ≤ c.args.to = Stands-le (own_flats c.args.nodes.now) c.args.from f c.args.to s in
    let lt : c.args.from < length c.args.nodes.now = own_within c.args.nodes.now c.args.from f c.args.to s (omega (arith, le, c.if-from-to.false)) in
    search rules

pub bounds-nodes-from : goal.bounds-nodes-from
bounds-nodes-from c =
    let (f, s) = c.requires in
    let le : c.args.from ≤ c.args.to = Stands-le (own_flats c.args.nodes.now) c.args.from f c.args.to s in
    own_within c.args.nodes.now c.args.from f c.args.to s (omega (arith, le, c.if-from-to.false))

pub returns-in-If : goal.returns-in-If
returns-in-If c f s =
    let le : c.args.from ≤ c.args.to = Stands-le (own_flats c.args.nodes.now) c.args.from f c.args.to s in
    let n = c.index-nodes-from.result in
    lone_by_end c.args.nodes.now c.args.from f c.args.to n c.in-If.field-0 c.in-If.bodies c.in-If.is (own_read c.args.nodes.now c.args.from f c.args.to n c.index-nodes-from.is (omega (arith, le, c.if-from-to.false)) s)

pub returns-in_default : goal.returns-in_default
returns-in_default c f s =
    let le : c.args.from ≤ c.args.to = Stands-le (own_flats c.args.nodes.now) c.args.from f c.args.to s in
    let n = c.index-nodes-from.result in
    lone_other c.args.nodes.now c.args.from f c.args.to n (other_if n (λ condition ends e. c.in_default.not-If condition ends e)) (own_read c.args.nodes.now c.args.from f c.args.to n c.index-nodes-from.is (omega (arith, le, c.if-from-to.false)) s)
