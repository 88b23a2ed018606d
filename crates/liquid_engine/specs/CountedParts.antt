-- The parts of a writer that counts its failures.
use Rattle.std.specs.Prelude.{ℕ}
use Rattle.liquid_engine.specs.declared.counted.Counted.{Counted}

abbrev pub inner : {W : Type 0} → Counted W → W
inner c = c.writer

abbrev pub failures_so_far : {W : Type 0} → Counted W → ℕ
failures_so_far c = c.failures
