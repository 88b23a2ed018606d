use Rattle.std.proofs.Common.{Vec, Global, map, subst}
use Rattle.liquid_model.specs.Answer.{IsValueOrMemory}
use Rattle.liquid_model.specs.View.{view}
use Rattle.liquid_model.specs.declared.value.Value.{Value}
use Rattle.liquid_filters.proofs.Keys.{sorted_items}
use Rattle.liquid_filters.proofs.stdlib.filters.array.sort.naturally_sorted.Goals as goal

pub returns : goal.returns
returns c = subst (λ w. IsValueOrMemory (λ (v : Vec Value Global). map view v.items) c.items_by_key.result w) (sorted_items _ _ _ c.in_ok-with_natural_keys.ensures) c.items_by_key.ensures
