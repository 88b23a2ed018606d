-- `where_exp`: the items for which a condition over one name holds.
--     naming name d      the environment that has d under the name, and nothing else
--     items_passing_test test ds      the items of which the test's condition holds, in their order
use Rattle.std.specs.Prelude.{Bool, List, [], ◌∷◌, filter, Result, Ok, Err}
use Rattle.std.specs.Option.{ok_or, option_map}
use Rattle.liquid_model.specs.Data.{Datum, array, object, pair, no_pairs, text_of}
use Rattle.liquid_model.specs.Fallible.{◌>>=◌}
use Rattle.liquid_model.specs.Lists.{list_of}
use Rattle.liquid_model.specs.Texts.{Text}
use Rattle.liquid_model.specs.View.{items_of}
use Rattle.liquid_model.specs.declared.error.ErrorKind.{ErrorKind}
use Rattle.liquid_model.specs.declared.error.ErrorKind.TheVariants.{InvalidArgument}
use Rattle.liquid_core.specs.Environment.{Environment}
use Rattle.liquid_core.specs.Held.{map_of}
use Rattle.liquid_core.specs.States.{merged_layers, new_layers}
use Rattle.liquid_evaluation.specs.Tree.{Condition}
use Rattle.liquid_model.specs.Arguments.{Answer}
use Rattle.liquid_jekyll_host_filters.specs.Searches.{values}
use Rattle.liquid_filter_sets.specs.ConditionTexts.{condition_in}
use Rattle.liquid_filter_sets.specs.Truths.{condition_holds}

-- a condition over a name
pub record Test : Type 0 where
  pub name : Text
  pub condition : Condition

abbrev pub naming : Text → Datum → Environment
naming name d = merged_layers (new_layers (map_of (pair name d no_pairs)))

unfoldable pub passes_test : Test → Datum → Bool
passes_test test d = condition_holds test.condition (naming test.name d)

abbrev pub items_passing_test : Test → List Datum → List Datum
items_passing_test test ds = filter (passes_test test) ds

-- the condition that the text of an argument is, over the name that the text of the other is
abbrev pub test_of : Datum → Datum → Result Test ErrorKind
test_of name condition = do
  c ← ok_or (condition_in (text_of condition)) InvalidArgument
  Ok (record { name = text_of name; condition = c })

-- of the items of a list, or of the values of a map; any other input stays
abbrev pub where_exp : Datum → Datum → Datum → Answer
where_exp name condition (array ds) = do
  test ← test_of name condition
  Ok (array (items_of (items_passing_test test (list_of ds))))
where_exp name condition (object ms) = do
  test ← test_of name condition
  Ok (array (items_of (items_passing_test test (values ms))))
where_exp name condition d = Ok d

-- `where_exp`
abbrev pub where_exp_answer : Datum → List Datum → Answer
where_exp_answer d (name ∷ condition ∷ args) = where_exp name condition d
where_exp_answer d args = Err InvalidArgument
