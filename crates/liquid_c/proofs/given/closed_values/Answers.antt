use Rattle.std.proofs.Common.{rules, ◌≡◌, [], None, length, sym, ◌∙◌}
use Rattle.std.proofs.lemmas.List.{nil_from_length}
use Rattle.liquid_lexer.specs.Tokens.{tokens_view}
use Rattle.liquid_parser.specs.ValueLists.{values_of}
use Rattle.liquid_parser.specs.declared.value_items.Separators.TheVariants.{Commas}
use Rattle.liquid_c.proofs.GivenTexts.{closed_are}
use Rattle.liquid_c.proofs.given.closed_values.Goals as goal

pub returns-in-Ok-read_values : goal.returns-in-Ok-read_values
returns-in-Ok-read_values c =
    let rest = c.in-Ok.found.2.now in
    let none : length rest ≡ 0 = search rules in
    sym c.in-Ok-read_values.ensures.values ∙ sym (closed_are c.args.text.now c.in-Ok.found.0.items c.in-Ok.found.1 rest c.in-Ok.ensures (nil_from_length rest none))

pub returns-in-Err-Fault-read_values : goal.returns-in-Err-Fault-read_values
returns-in-Err-Fault-read_values c =
    let rest = c.in-Ok.found.2.now in
    let none : length rest ≡ 0 = search rules in
    let fails : values_of Commas (tokens_view c.in-Ok.found.0.items) ≡ None = search rules in
    sym fails ∙ sym (closed_are c.args.text.now c.in-Ok.found.0.items c.in-Ok.found.1 rest c.in-Ok.ensures (nil_from_length rest none))
