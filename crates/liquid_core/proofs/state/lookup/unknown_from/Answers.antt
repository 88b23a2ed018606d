use Rattle.std.proofs.Common.{◌++◌, subst, ◌∙◌}
use Rattle.std.specs.Prelude.{codes}
use Rattle.liquid_model.specs.Errors.{HasMessageUnlessMemory}
use Rattle.liquid_model.specs.Quotes.{quotation}
use Rattle.liquid_core.proofs.Messages.{nowhere_is_message}
use Rattle.liquid_core.proofs.state.lookup.unknown_from.Goals as goal

pub returns-in-Ok-clause-message : goal.returns-in-Ok-clause-message
returns-in-Ok-clause-message c =
    subst (λ t. HasMessageUnlessMemory (codes "the path from `" ++ (quotation t ++ codes "` leads to no value")) c.formatted.result)
    (c.as_str.ensures.value ∙ c.in-Ok.ensures)
    (c.formatted.ensures.message (nowhere_is_message c.as_str.result.now))
