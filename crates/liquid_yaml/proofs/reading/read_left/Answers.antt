use Rattle.std.proofs.Common.{◌≡◌, Some, sym, ◌∙◌}
use Rattle.std.proofs.lemmas.Result.{err_from_is_err_and}
use Rattle.liquid_yaml.specs.Places.{gathering_view}
use Rattle.liquid_yaml.proofs.Turns.{ended_answers, read_end, read_turn, whole_faulted}
use Rattle.liquid_yaml.proofs.reading.read_left.Goals as goal

pub returns-then-end_at : goal.returns-then-end_at
returns-then-end_at c =
    let e : c.loop-left.left ≡ Some c.in-Some.text = (let h = c.in-Some.is in cc) in
    ended_answers c.document_before.result _ _ (read_end c.args.lines.is_front (gathering_view c.loop-left.gathered) c.loop-left.left c.in-Some.text c.first_part.result _ e c.first_part.ensures (sym c.end_at.ensures ∙ c.if-end_at.true) c.loop-left.invariant) c.document_before.ensures

pub loop-left-preserved : goal.loop-left-preserved
loop-left-preserved c =
    let e : c.loop-left.left ≡ Some c.in-Some.text = (let h = c.in-Some.is in cc) in
    read_turn c.args.lines.is_front (gathering_view c.loop-left.gathered) (gathering_view c.take_line.new.gathered) c.loop-left.left c.in-Some.text c.first_part.result _ e c.first_part.ensures
    (sym c.end_at.ensures ∙ c.if-end_at.false) c.in_ok-take_line.ensures c.loop-left.invariant

pub returns-in_err-take_line : goal.returns-in_err-take_line
returns-in_err-take_line c =
    let e : c.loop-left.left ≡ Some c.in-Some.text = (let h = c.in-Some.is in cc) in
    let p = err_from_is_err_and c.from_residual.result c.from_residual.ensures.1 in
    rw (p.1, p.2) (whole_faulted c.args.lines.is_front (gathering_view c.loop-left.gathered) c.in_err-take_line.field-0.0.kind c.loop-left.left c.in-Some.text c.first_part.result _ e c.first_part.ensures
    (sym c.end_at.ensures ∙ c.if-end_at.false) c.in_err-take_line.ensures c.loop-left.invariant)
