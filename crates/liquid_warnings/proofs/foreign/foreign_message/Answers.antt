use Rattle.std.proofs.Common.{subst, sym}
use Rattle.std.proofs.lemmas.Result.{IfOk-weaker}
use Rattle.liquid_warnings.specs.Messages.{IsForeignMessage, of_comment, of_tag, of_value}
use Rattle.liquid_warnings.proofs.foreign.foreign_message.Goals as goal

pub returns-in-Value : goal.returns-in-Value
returns-in-Value c = IfOk-weaker c.foreign_value.result _ _ (λ m same. subst IsForeignMessage (sym same) (of_value _ _)) c.foreign_value.ensures

pub returns-in-Tag : goal.returns-in-Tag
returns-in-Tag c = IfOk-weaker c.foreign_tag.result _ _ (λ m same. subst IsForeignMessage (sym same) (of_tag _)) c.foreign_tag.ensures

pub returns-in-Comment : goal.returns-in-Comment
returns-in-Comment c = IfOk-weaker c.foreign_comment.result _ _ (λ m same. subst IsForeignMessage (sym same) of_comment) c.foreign_comment.ensures
