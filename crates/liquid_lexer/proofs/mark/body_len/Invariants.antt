use Rattle.std.proofs.Common.{length, drop, ◌-◌, ◌+◌, ◌≡◌, ◌≤◌}
use Rattle.liquid_model.specs.Front.{run_len}
use Rattle.liquid_lexer.specs.SourceReading.{in_body}
use Rattle.liquid_lexer.proofs.mark.body_len.Given as goal

abbrev pub invariant-loop-n : goal.invariant-loop-n
invariant-loop-n l = record { within : l.n ≤ length l.text; so_far : run_len (in_body l.body) l.text ≡ l.n + run_len (in_body l.body) (drop l.n l.text) }

abbrev pub decreases-loop-n : goal.decreases-loop-n
decreases-loop-n l = length l.text - l.n
