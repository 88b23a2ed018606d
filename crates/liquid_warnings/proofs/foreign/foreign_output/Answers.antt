use Rattle.std.proofs.Common.{string_bytes, subst, sym}
use Rattle.std.proofs.lemmas.Result.{IfOk-weaker}
use Rattle.liquid_warnings.specs.Messages.{IsForeignMessage}
use Rattle.liquid_warnings.proofs.foreign.foreign_output.Goals as goal

pub returns : goal.returns
returns c = IfOk-weaker c.at.result _ _
    (λ r is. (c.as_str.result.now, (subst IsForeignMessage (sym c.as_str.ensures.value) c.in_ok-message.ensures, (_, _, is)))) c.at.ensures
