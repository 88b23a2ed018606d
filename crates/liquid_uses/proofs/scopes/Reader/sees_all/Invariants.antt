use Rattle.liquid_uses.specs.inside.Readings.{targets_of}
use Rattle.liquid_uses.specs.inside.Scopes.{visible_to}
use Rattle.liquid_uses.proofs.PartialReads.{AllSeen}
use Rattle.liquid_uses.proofs.scopes.Reader.sees_all.Given as goal

-- where the names that are left are seen, all are
abbrev pub invariant-loop-name : goal.invariant-loop-name
invariant-loop-name l = AllSeen (visible_to l.self) (targets_of l.targets) l.name-iterator → AllSeen (visible_to l.self) (targets_of l.targets) l.initial.name-iterator
