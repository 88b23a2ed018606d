use Rattle.std.proofs.Common.{rules, ◌≡◌, string_bytes, ap, subst, ◌∙◌}
use Rattle.liquid_model.specs.Answer.{IsValueOrMemory}
use Rattle.liquid_model.specs.Data.{pair, no_pairs}
use Rattle.liquid_model.specs.View.{view, pairs_view}
use Rattle.liquid_core.specs.Held.{map_of}
use Rattle.liquid_core.specs.States.{merged_layers, new_layers}
use Rattle.liquid_evaluation.specs.ConditionView.{condition_view}
use Rattle.liquid_filter_sets.specs.Selections.{passes_test}
use Rattle.liquid_filter_sets.specs.Truths.{condition_holds}
use Rattle.liquid_filter_sets.proofs.where_exp.Test.selects.Goals as goal

pub returns : goal.returns
unfolding passes_test
returns c =
    let named : pairs_view c.store.new.object.entries ≡ pair (string_bytes c.args.self.now.name) (view c.args.item.now) no_pairs = search rules in
    subst (λ e. IsValueOrMemory (λ b. b) c.holds.result (condition_holds (condition_view c.args.self.now.condition) e))
    (ap merged_layers c.new.ensures.layers ∙ ap (λ ps. merged_layers (new_layers (map_of ps))) named) c.holds.ensures
