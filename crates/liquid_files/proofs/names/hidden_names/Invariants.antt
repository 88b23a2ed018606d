use Rattle.std.proofs.Common.{◌≡◌, ◌+◌, ◌≤◌, drop}
use Rattle.liquid_files.specs.Names.{hidden_names, hidden_names_from}
use Rattle.liquid_files.proofs.names.hidden_names.Given as goal

-- those that were counted and those to come are those of the whole
abbrev pub invariant-loop-byte : goal.invariant-loop-byte
invariant-loop-byte l = (l.count ≤ l.byte-index) × (l.count + hidden_names_from l.begins (drop l.byte-index l.path) ≡ hidden_names l.path)
