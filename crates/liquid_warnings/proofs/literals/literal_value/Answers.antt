use Rattle.std.proofs.Common.{◌≡◌, sym}
use Rattle.liquid_warnings.proofs.SeenLiterals.{of_literal, of_variable}
use Rattle.liquid_warnings.proofs.literals.literal_value.Goals as goal

pub returns-in-Literal : goal.returns-in-Literal
returns-in-Literal c = sym (of_literal c.args.expression.now c.in-Literal.value c.in-Literal.is)

pub returns-in-Variable : goal.returns-in-Variable
returns-in-Variable c = sym (of_variable c.args.expression.now c.in-Variable.field-0 c.in-Variable.is)
