use Rattle.liquid_uses.specs.inside.Readings.{SlotsKnown}
use Rattle.liquid_uses.proofs.partial_reads.are_known.Given as goal

-- where the slots that are left are known, all are
abbrev pub invariant-loop-name : goal.invariant-loop-name
invariant-loop-name l = SlotsKnown l.readings.entries l.name-iterator → SlotsKnown l.readings.entries l.initial.name-iterator
