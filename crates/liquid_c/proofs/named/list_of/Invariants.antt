use Rattle.std.proofs.Common.{◌≡◌, ◌++◌, map, string_bytes}
use Rattle.std.specs.BTreeSet.{keys}
use Rattle.liquid_model.specs.Data.{text}
use Rattle.liquid_model.specs.View.{view}
use Rattle.liquid_c.proofs.named.list_of.Given as goal

-- the items so far, and the names that are left, are all names
abbrev pub invariant-loop-name : goal.invariant-loop-name
invariant-loop-name l =
    map (λ n. text (string_bytes n)) (keys l.names) ≡ map view l.items.items ++ map (λ n. text (string_bytes n)) l.name-iterator
