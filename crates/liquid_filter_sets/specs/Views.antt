-- What the code's tests and texts are seen as.
use Rattle.std.specs.Prelude.{List, map, String, string_bytes, Vec}
use Rattle.std.specs.declared.alloc.Global.{Global}
use Rattle.liquid_evaluation.specs.ConditionView.{condition_view}
use Rattle.liquid_filter_sets.specs.Selections as selections
use Rattle.liquid_filter_sets.specs.declared.where_exp.Test.{Test}
use Rattle.liquid_model.specs.Texts.{Text}

abbrev pub test_view : Test → selections.Test
test_view test = record {
  name = string_bytes test.name;
  condition = condition_view test.condition;
}

abbrev pub texts_view : Vec (String Global) Global → List Text
texts_view v = map string_bytes v.items
