-- Calls that a table lacks.
use Rattle.std.specs.Prelude.{◌≡◌, ◌<◌, ◌≤◌, List, [], ◌∷◌, None, length, string_bytes}
use Rattle.std.specs.Ordering.{on}
use Rattle.std.specs.List.{AllByRecursion}
use Rattle.std.specs.List.Sorted.{IsStrictlySortedBy}
use Rattle.liquid_model.specs.Data.{array}
use Rattle.liquid_model.specs.Order.{order}
use Rattle.liquid_model.specs.View.{items_view, view}
use Rattle.liquid_model.specs.declared.value.Value.{Value}
use Rattle.liquid_json.specs.JsonTexts.{json_text}
use Rattle.liquid_answers.specs.Tables.{answer_at}
use Rattle.liquid_answers.specs.declared.answers.Answers.{Answers}
use Rattle.liquid_answers.specs.declared.lacking.Lacking.{Lacking}

abbrev pub all_but_last : List Value → List Value
all_but_last [] = []
all_but_last (c ∷ []) = []
all_but_last (c ∷ d ∷ ds) = c ∷ all_but_last (d ∷ ds)

-- in JSON all but the last have at most 1 MiB
abbrev pub AreShort : List Value → Type 0
AreShort calls = length (json_text (array (items_view (all_but_last calls)))) ≤ 1048576

-- the table lacks each, none is there twice, they are at most 1,000, and short
pub record AreLackingCalls (table : Answers) (calls : List Value) : Type 0 where
  pub lacking : AllByRecursion (λ call. answer_at table (view call) ≡ None) calls
  pub once : IsStrictlySortedBy (on view order) calls
  pub few : length calls ≤ 1000
  pub short : AreShort calls

abbrev pub calls_in : Lacking → List Value
calls_in it = it.calls.items

-- there is such a call, and the text has them in JSON
abbrev pub IsLacking : Answers → Lacking → Type 0
IsLacking table it = AreLackingCalls table (calls_in it) × (0 < length (calls_in it))
    × (string_bytes it.text ≡ json_text (array (items_view (calls_in it))))
