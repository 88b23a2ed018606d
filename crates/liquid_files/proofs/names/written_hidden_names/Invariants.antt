use Rattle.std.proofs.Common.{◌≡◌, ◌+◌, ◌≤◌, drop}
use Rattle.liquid_files.specs.Names.{written_hidden_names, written_names_from}
use Rattle.liquid_files.proofs.names.written_hidden_names.Given as goal

-- those that were counted and those to come are those of the whole
abbrev pub invariant-loop-byte : goal.invariant-loop-byte
invariant-loop-byte l = (l.count ≤ l.byte-index) × (l.count + written_names_from l.is_written l.is_at_start (drop l.byte-index l.pattern) ≡ written_hidden_names l.pattern)
