-- The items of `cycle`: how they are written, and how they are read.
use Rattle.std.specs.Prelude.{List, [], ◌∷◌, Bool, true, false, cond, Option, Some, None, String}
use Rattle.std.specs.Prelude.{Vec, map, string_bytes}
use Rattle.std.specs.Option.{option_and_then, option_map}
use Rattle.std.specs.declared.alloc.Global.{Global}
use Rattle.liquid_core.specs.Expression.{Expression, literal, variable, Steps, no_steps, step}
use Rattle.liquid_core.specs.ExpressionView.{expression_view}
use Rattle.liquid_core.specs.declared.expression.Expression as code
use Rattle.liquid_model.specs.Data.{Datum}
use Rattle.liquid_model.specs.Texts.{Text}
use Rattle.liquid_lexer.specs.Tokens.{Token, value, symbol, value_first, past}
use Rattle.liquid_lexer.specs.declared.symbol.Symbol.TheVariants.{Colon}
use Rattle.liquid_evaluation.specs.Groups.{group_of}
use Rattle.liquid_evaluation.specs.Tree.{Node, cycle}
use Rattle.liquid_parser.specs.ValueLists.{AreValues, any_values_of, further_of}
use Rattle.liquid_parser.specs.declared.value_items.Separators.TheVariants.{Commas}

-- ---- the grammar

-- an identifier or a literal
pub data IsName : Expression → Type 0 where
  an_identifier : (w : Text) → IsName (variable w no_steps)
  a_literal : (d : Datum) → IsName (literal d)

-- values, or a name, a `:` and values, which may all be missing there
pub data IsCycle : Option Expression → List Expression → List Token → Type 0 where
  without_name : {xs : List Expression} {ts : List Token} → AreValues Commas xs ts →
      IsCycle None xs ts
  with_name : {name : Expression} {xs : List Expression} {ts : List Token} → IsName name →
      AreValues Commas xs ts → IsCycle (Some name) xs (value name ∷ symbol Colon ∷ ts)
  name_alone : {name : Expression} → IsName name →
      IsCycle (Some name) [] (value name ∷ symbol Colon ∷ [])

-- ---- reading

-- the name, if there is one, and the values
abbrev pub Cycle : Type 0
Cycle = Option Expression × List Expression

abbrev pub has_no_steps : Steps → Bool
has_no_steps no_steps = true
has_no_steps (step x more) = false

abbrev pub is_cycle_name : Expression → Bool
is_cycle_name (literal d) = true
is_cycle_name (variable w steps) = has_no_steps steps

-- what follows a name and its `:`
abbrev pub named_of : Expression → List Token → Option Cycle
named_of name ts =
    cond (is_cycle_name name) (option_map (λ xs. (Some name, xs)) (any_values_of Commas ts)) None

-- what follows a first value, from the `:` on where there is one
abbrev pub after_first : Expression → List Token → Option (List Token) → Option Cycle
after_first x ts None = option_map (λ xs. (None, x ∷ xs)) (further_of Commas ts)
after_first x ts (Some rest) = named_of x rest

abbrev pub cycle_of : List Token → Option Cycle
cycle_of ts = option_and_then (λ x. after_first x.0 x.1 (past Colon x.1)) (value_first ts)

-- ---- the group

abbrev pub with_group : Cycle → Text × List Expression
with_group c = (group_of c.0 c.1, c.1)

abbrev pub grouped_of : List Token → Option (Text × List Expression)
grouped_of ts = option_map with_group (cycle_of ts)

abbrev pub cycle_node : Text × List Expression → Node
cycle_node g = cycle g.0 g.1

-- what the code's group and values say
abbrev pub grouped_view : String Global × Vec code.Expression Global → Text × List Expression
grouped_view g = (string_bytes g.0, map expression_view g.1.items)
