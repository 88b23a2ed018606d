use Rattle.std.proofs.lemmas.List.Elements.{filter_passes}
use Rattle.liquid_filter_sets.specs.Selections.{passes_test}
use Rattle.liquid_filter_sets.proofs.laws.each_kept_is_selected.Goals as goal

pub returns : goal.returns
returns c = λ test ds. filter_passes (passes_test test) ds
