use Rattle.std.proofs.Common.{sym, ap, ◌∙◌}
use Rattle.liquid_syntax.specs.Flats.{arm_ends, flat_of}
use Rattle.liquid_syntax.specs.Laid.{last_end}
use Rattle.liquid_syntax.proofs.Tidied.{last_of}
use Rattle.liquid_syntax.proofs.blanks.past.Goals as goal

-- src/blanks.rt:62:1
pub returns-in-Case : goal.returns-in-Case
returns-in-Case c = sym (ap (λ n. last_end c.args.next (flat_of n).ends) c.in-Case.is ∙ last_of c.args.next (arm_ends c.in-Case.field-1.items) c.in-Case.end)
