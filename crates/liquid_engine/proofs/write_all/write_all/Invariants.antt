use Rattle.std.proofs.Common.{◌≡◌, ℕ, List, ◌++◌, length}
use Rattle.std.specs.Io.KnownBytes.{Appends}
use Rattle.liquid_engine.specs.Limits.{TakesBytes}
use Rattle.liquid_engine.proofs.write_all.write_all.Given as goal

abbrev pub invariant-loop-rest : goal.invariant-loop-rest
invariant-loop-rest g l = record {
  taken : (done : List ℕ) × (l.initial.rest ≡ done ++ l.rest) × Appends (g.W.CountedWrite.contents l.initial.writer) (g.W.CountedWrite.contents l.writer) done
      × TakesBytes (length done) (g.W.CountedWrite.left l.initial.writer) (g.W.CountedWrite.left l.writer);
  none_failed : g.W.CountedWrite.failure_count l.writer ≡ g.W.CountedWrite.failure_count l.initial.writer;
}

abbrev pub decreases-loop-rest : goal.decreases-loop-rest
decreases-loop-rest g l = length l.rest
