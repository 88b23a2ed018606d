use Rattle.std.proofs.Common.{◌≡◌, drop}
use Rattle.liquid_c.specs.Tables.{kind_among}
use Rattle.liquid_c.proofs.answering.kind_of.Given as goal

abbrev pub invariant-loop-kind : goal.invariant-loop-kind
invariant-loop-kind l = kind_among l.kinds l.number ≡ kind_among (drop l.kind-index l.kinds) l.number
