use Rattle.std.proofs.Common.{map, rules}
use Rattle.liquid_core.specs.ExpressionView.{expression_view}
use Rattle.liquid_uses.specs.inside.Chains.{IsPropertyName, NamesProperty}
use Rattle.liquid_uses.proofs.PropertyNames.{match_more, names_first}
use Rattle.liquid_uses.proofs.properties.property_name.Goals as goal

pub returns-in-len1-up : goal.returns-in-len1-up
returns-in-len1-up c =
    match_more (λ n. IsPropertyName (expression_view c.first-item.result) n.now) (λ n. NamesProperty (map expression_view c.args.arguments.now) n.now)
    (λ n named. names_first c.args.arguments.now c.first-item.result c.first-item.is c.in-len1-up.len_at_least n.now named) c.literal_name.result c.literal_name.ensures
