use Rattle.std.proofs.Common.{◌≡◌, ◌∙◌, None, Some, sym}
use Rattle.liquid_site_round.proofs.Names.{names_end, names_kept, names_over, names_refused}
use Rattle.liquid_site_round.proofs.list.names_listed.Goals as goal

pub loop-left-preserved-then-is_empty : goal.loop-left-preserved-then-is_empty
loop-left-preserved-then-is_empty c =
    let e : c.loop-left.left ≡ Some c.in-Some.text = (let h = c.in-Some.is in cc) in
    names_over c.loop-left.names.items c.loop-left.left c.in-Some.text c.first_line.result _ e c.first_line.ensures (sym c.is_empty.ensures ∙ c.if-is_empty.true) c.loop-left.invariant

pub loop-left-preserved : goal.loop-left-preserved
loop-left-preserved c =
    let e : c.loop-left.left ≡ Some c.in-Some.text = (let h = c.in-Some.is in cc) in
    names_kept c.loop-left.names.items c.push.new.self.items c.loop-left.left c.in-Some.text c.first_line.result _ e c.first_line.ensures (sym c.is_empty.ensures ∙ c.if-is_empty.false)
    (sym c.is_written_name.ensures ∙ c.if-not-is_written_name.false) c.in_ok-push.ensures.items c.loop-left.invariant

pub returns-then-not-is_written_name : goal.returns-then-not-is_written_name
returns-then-not-is_written_name c =
    let e : c.loop-left.left ≡ Some c.in-Some.text = (let h = c.in-Some.is in cc) in
    names_refused c.loop-left.names.items c.loop-left.left c.in-Some.text c.first_line.result _ e c.first_line.ensures (sym c.is_empty.ensures ∙ c.if-is_empty.false) (sym c.is_written_name.ensures ∙ c.if-not-is_written_name.true) c.loop-left.invariant

pub returns : goal.returns
returns c =
    let none : c.loop-left.left ≡ None = (let h = c.in_default.is in cc) in
    names_end c.loop-left.names.items c.loop-left.left _ none c.loop-left.invariant
