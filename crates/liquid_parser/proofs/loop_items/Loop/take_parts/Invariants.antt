use Rattle.std.proofs.Common.{length, ◌≡◌}
use Rattle.liquid_lexer.specs.Tokens.{tokens_view}
use Rattle.liquid_parser.specs.Loops.{parts_in, parts_after}
use Rattle.liquid_parser.proofs.loop_items.Loop.take_parts.Given as goal

-- what is left gives, after the parts that were read, what the whole gives
abbrev pub invariant-parts : goal.invariant-parts
invariant-parts l = record {
  read : parts_after l.kind (parts_in l.initial.self) (tokens_view l.initial.items.items) ≡ parts_after l.kind (parts_in l.self) (tokens_view l.items.items);
  same : (l.self.variable ≡ l.initial.self.variable) × (l.self.source ≡ l.initial.self.source);
}

abbrev pub decreases-parts : goal.decreases-parts
decreases-parts l = length l.items.items
