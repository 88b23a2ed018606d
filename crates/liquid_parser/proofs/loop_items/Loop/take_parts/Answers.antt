use Rattle.std.proofs.Common.{sym, ap, ◌∙◌}
use Rattle.liquid_lexer.specs.Tokens.{tokens_view}
use Rattle.liquid_parser.specs.Loops.{parts_in, part_view, parts_after}
use Rattle.liquid_parser.proofs.ChainCalls.{faulted}
use Rattle.liquid_parser.proofs.ItemLaws.{no_part_more, no_part_there, nothing_seen, one_part_more}
use Rattle.liquid_parser.proofs.loop_items.Loop.take_parts.Goals as goal

pub returns-in_default-clause-parts : goal.returns-in_default-clause-parts
returns-in_default-clause-parts c =
    let l = c.parts in
    faulted c.expected_before.result _ (
    l.invariant.read
    ∙ no_part_there c.args.kind (parts_in l.self) (tokens_view l.items.items) (nothing_seen l.items.items _ (sym c.is_over.ensures ∙ c.parts-test.true)) (sym c.in_default.ensures.value))

pub parts-preserved : goal.parts-preserved
parts-preserved c =
    let l = c.parts in
    let left = tokens_view c.next_part.new.items.items in
    record {
      read = l.invariant.read
          ∙ one_part_more c.args.kind (parts_in l.self) (tokens_view l.items.items) (part_view c.in-Some.part) left (nothing_seen l.items.items _ (sym c.is_over.ensures ∙ c.parts-test.true)) (sym c.in-Some.ensures.value)
          ∙ ap (λ ps. parts_after c.args.kind ps left) (sym c.set.ensures.parts);
      same = (c.set.ensures.rest.0 ∙ l.invariant.same.0, c.set.ensures.rest.1 ∙ l.invariant.same.1);
    }

pub returns-clause-parts : goal.returns-clause-parts
returns-clause-parts c =
    let l = c.parts in
    l.invariant.read ∙ no_part_more c.args.kind (parts_in l.self) (tokens_view l.items.items) (nothing_seen l.items.items _ (sym c.is_over.ensures ∙ c.parts-test.false))
