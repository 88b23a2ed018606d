-- Calls on their way into a list.
use Rattle.std.specs.Prelude.{◌≡◌, ◌-◌, List, [], ◌∷◌, ◌++◌, Some, codes, length, slice_get}
use Rattle.std.specs.Prelude.{string_bytes}
use Rattle.std.specs.Ordering.{on}
use Rattle.std.specs.declared.cmp.Ordering.TheVariants.{Less}
use Rattle.json.specs.Print.{print}
use Rattle.json.specs.Token.{Token}
use Rattle.liquid_model.specs.Data.{Items, no_items, item}
use Rattle.liquid_model.specs.Order.{order}
use Rattle.liquid_model.specs.Texts.{Text}
use Rattle.liquid_model.specs.View.{items_view, view}
use Rattle.liquid_model.specs.declared.value.Value.{Value}
use Rattle.liquid_json.specs.JsonTexts.{json_tokens}
use Rattle.liquid_answers.specs.Lacking.{AreLackingCalls}
use Rattle.liquid_answers.specs.declared.answers.Answers.{Answers}
use Rattle.liquid_answers.specs.declared.lacking.Listed.{Listed}

-- what stands between these calls and the next one
abbrev pub comma_after : List Value → Text
comma_after [] = []
comma_after (c ∷ cs) = codes ","

-- the tokens of items, one after another
abbrev pub front_tokens : Items → List Token
front_tokens no_items = []
front_tokens (item d ds) = json_tokens d ++ front_tokens ds

-- a list in JSON that isn't closed
abbrev pub list_front : Items → Text
list_front ds = print (Token.begin_array ∷ front_tokens ds)

-- no call is listed yet
abbrev pub IsNone : Listed → Type 0
IsNone listed = (listed.calls.items ≡ []) × (string_bytes listed.text ≡ codes "[")

-- the call comes after the last of these
abbrev pub IsAfter : List Value → Value → Type 0
IsAfter calls call = (last : Value) → slice_get calls (length calls - 1) ≡ Some last →
    on view order last call ≡ Less

-- the table lacks the calls, and the text is their list, but for its end
pub record AreListed (table : Answers) (listed : Listed) : Type 0 where
  pub lacking_calls : AreLackingCalls table listed.calls.items
  pub text : string_bytes listed.text ≡ list_front (items_view listed.calls.items)
