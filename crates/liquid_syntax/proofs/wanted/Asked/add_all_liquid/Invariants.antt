use Rattle.std.specs.Prelude.{◌≡◌, true, string_bytes}
use Rattle.std.specs.List.{list_all}
use Rattle.std.proofs.Common.{take}
use Rattle.liquid_syntax.specs.Reached.{StaysAsked, found_or_asked, had}
use Rattle.liquid_syntax.specs.Templates.{partials_of}
use Rattle.liquid_syntax.proofs.wanted.Asked.add_all_liquid.Given as goal

-- the names before this one are found, or asked for with `.liquid`
abbrev pub invariant-loop-name : goal.invariant-loop-name
invariant-loop-name l = StaysAsked l.fn.self l.self × (list_all (λ k. found_or_asked l.self (had (partials_of l.partials)) (string_bytes k)) (take l.name-index l.names) ≡ true)
