use Rattle.std.proofs.Common.{ap, sym, ◌∙◌}
use Rattle.std.specs.Char.{is_ascii_whitespace}
use Rattle.std.specs.List.{list_all}
use Rattle.liquid_data.proofs.Blanks.{at_end, found, none_read, one_more}
use Rattle.liquid_data.proofs.lines.Lines.advance.Goals as goal

pub loop-init : goal.loop-init
loop-init g c = none_read _

pub returns-then-self-clause-line : goal.returns-then-self-clause-line
returns-then-self-clause-line g c = λ _. found _ _ _ _ _ c.loop.invariant c.in_ok-count.ensures.rest c.in_ok-count.ensures.line

pub returns-then-count-eq0-clause-end : goal.returns-then-count-eq0-clause-end
returns-then-count-eq0-clause-end g c = λ _. at_end _ _ c.loop.invariant (c.in_ok-count.ensures.end c.if-count-eq0.true c.if-self.false)

pub returns-then-not-is_blank-clause-line : goal.returns-then-not-is_blank-clause-line
returns-then-not-is_blank-clause-line g c = λ _. found _ _ _ _ _ c.loop.invariant c.in_ok-count.ensures.rest c.in_ok-count.ensures.line

pub loop-preserved : goal.loop-preserved
loop-preserved g c = one_more _ _ _ _ c.loop.invariant c.in_ok-count.ensures.rest (c.in_ok-count.ensures.line c.if-self.false) (ap (list_all is_ascii_whitespace) (sym c.as_slice.ensures.value) ∙ sym c.is_blank.ensures ∙ c.if-not-is_blank.false)
