use Rattle.std.proofs.lemmas.List.Elements.{filter-append}
use Rattle.liquid_filter_sets.specs.Selections.{passes_test}
use Rattle.liquid_filter_sets.proofs.laws.selects_part_by_part.Goals as goal

pub returns : goal.returns
returns c = λ test front back. filter-append (passes_test test) front back
