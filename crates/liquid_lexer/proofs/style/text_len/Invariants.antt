use Rattle.std.proofs.Common.{length, drop, ◌-◌, ◌+◌, ◌≡◌, ◌≤◌}
use Rattle.liquid_lexer.specs.Styles.{in_tag_text}
use Rattle.liquid_model.specs.Front.{run_len}
use Rattle.liquid_lexer.proofs.style.text_len.Given as goal

abbrev pub invariant-loop-n : goal.invariant-loop-n
invariant-loop-n l = record { within : l.n ≤ length l.bytes; so_far : run_len in_tag_text l.bytes ≡ l.n + run_len in_tag_text (drop l.n l.bytes) }

abbrev pub decreases-loop-n : goal.decreases-loop-n
decreases-loop-n l = length l.bytes - l.n
