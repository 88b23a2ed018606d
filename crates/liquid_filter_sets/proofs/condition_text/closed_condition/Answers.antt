use Rattle.std.proofs.Common.{rules, ◌≡◌, [], None, length, sym, ◌∙◌}
use Rattle.std.proofs.lemmas.List.{nil_from_length}
use Rattle.liquid_lexer.specs.Tokens.{tokens_view}
use Rattle.liquid_parser.specs.ConditionReading.{condition_of}
use Rattle.liquid_filter_sets.proofs.ClosedTexts.{closed_is}
use Rattle.liquid_filter_sets.proofs.condition_text.closed_condition.Goals as goal

pub returns-in-Ok-read_condition : goal.returns-in-Ok-read_condition
returns-in-Ok-read_condition c =
    let rest = c.in-Ok.found.2.now in
    let none : length rest ≡ 0 = search rules in
    sym c.in-Ok-read_condition.ensures.condition ∙ sym (closed_is c.args.text.now c.in-Ok.found.0.items c.in-Ok.found.1 rest c.in-Ok.ensures (nil_from_length rest none))

pub returns-in-Err-Fault-read_condition : goal.returns-in-Err-Fault-read_condition
returns-in-Err-Fault-read_condition c =
    let rest = c.in-Ok.found.2.now in
    let none : length rest ≡ 0 = search rules in
    let fails : condition_of (tokens_view c.in-Ok.found.0.items) ≡ None = search rules in
    sym fails ∙ sym (closed_is c.args.text.now c.in-Ok.found.0.items c.in-Ok.found.1 rest c.in-Ok.ensures (nil_from_length rest none))
