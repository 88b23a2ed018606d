use Rattle.std.proofs.Common.{string_bytes, sym, subst, IfSome, ◌≡◌, ◌∙◌}
use Rattle.liquid_core.proofs.Messages.{message_front, message_line, where_ok}
use Rattle.liquid_core.proofs.expression.message.Goals as goal

pub returns-clause-line : goal.returns-clause-line
returns-clause-line g c =
    where_ok c.format.result c.format.ensures.ok
    (λ s is. message_line (string_bytes s) c.as_str.result.now (string_bytes c.line_of-words.result) is c.line_of-words.ensures.line)

pub returns-clause-front : goal.returns-clause-front
returns-clause-front g c =
    let spelled = subst (λ t. IfSome (g.D.Display.output c.args.spelled.now) (λ form. t ≡ form)) (sym c.as_str.ensures.value) c.in_ok-spelled.ensures.ok in
    where_ok c.format.result c.format.ensures.ok
    (λ s is. message_front (g.D.Display.output c.args.spelled.now) (string_bytes s) c.as_str.result.now (string_bytes c.line_of-words.result) spelled is)
