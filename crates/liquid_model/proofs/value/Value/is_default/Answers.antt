use Rattle.std.proofs.Common.{rules}
use Rattle.liquid_model.proofs.Views.{view-Array, view-Object, empty_items, empty_pairs}
use Rattle.liquid_model.proofs.value.Value.is_default.Goals as goal

pub returns-in-Array : goal.returns-in-Array
returns-in-Array c = search (rules, empty_items c.in-Array.items.items, view-Array)

pub returns-in-Object : goal.returns-in-Object
returns-in-Object c = search (rules, empty_pairs c.in-Object.pairs.entries, view-Object)
