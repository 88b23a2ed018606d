-- What is proved of `where_exp` beyond its answer.
use Rattle.std.specs.Prelude.{◌≡◌, true, List, ◌++◌, All}
use Rattle.liquid_model.specs.Data.{Datum}
use Rattle.liquid_filter_sets.specs.Selections.{Test, passes_test, items_passing_test}

-- two lists in a row select what each selects, in this order
abbrev pub SelectsPartByPart : Type 0
SelectsPartByPart =
    (test : Test) (front back : List Datum) →
    items_passing_test test (front ++ back) ≡ items_passing_test test front
    ++ items_passing_test test back

-- the condition holds of each item that is selected
abbrev pub EachKeptIsSelected : Type 0
EachKeptIsSelected =
    (test : Test) (ds : List Datum) → All (λ d. passes_test test d ≡
    true) (items_passing_test test ds)
