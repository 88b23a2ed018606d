use Rattle.liquid_data.proofs.Blanks.{IsPastBlanks}
use Rattle.liquid_data.specs.Lines.{lines_left}
use Rattle.liquid_data.proofs.lines.Lines.advance.Given as goal

-- what was read so far are blank lines
abbrev pub invariant-loop : goal.invariant-loop
invariant-loop g l = IsPastBlanks (lines_left g.R.Read.remaining l.initial.self) (lines_left g.R.Read.remaining l.self)
