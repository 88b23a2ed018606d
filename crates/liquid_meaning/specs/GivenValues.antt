-- The law of arguments that aren't required.
--     GivenAreLiterals      each stands for the literal of its value, or of nil where it is missing
use Rattle.std.specs.Prelude.{◌≡◌, ℕ, zero, suc, ◌-◌, List, [], ◌∷◌, length, map}
use Rattle.std.specs.Option.{unwrap_or}
use Rattle.liquid_model.specs.Data.{Datum, nil}
use Rattle.liquid_core.specs.Environment.{Environment}
use Rattle.liquid_core.specs.Expression.{Expression, literal}
use Rattle.liquid_core.specs.Expressions.{value_of}
use Rattle.liquid_evaluation.specs.Evaluation.{FilterAnswers, chain_value, through}
use Rattle.liquid_evaluation.specs.Tree.{Chain, FilterCall}

-- an argument, where the next n are required
abbrev pub spelled_argument : Environment → ℕ → Expression → Expression
spelled_argument e zero x = literal (unwrap_or (value_of x e) nil)
spelled_argument e (suc n) x = x

-- arguments, of which the first n are required
abbrev pub spelled_arguments : Environment → ℕ → List Expression → List Expression
spelled_arguments e n [] = []
spelled_arguments e n (x ∷ xs) = spelled_argument e n x ∷ spelled_arguments e (n - 1) xs

-- the call with each argument required
abbrev pub spelled_call : Environment → FilterCall → FilterCall
spelled_call e call = record {
  filter = call.filter;
  arguments = spelled_arguments e call.required call.arguments;
  required = length call.arguments;
}

pub record GivenAreLiterals : Type 0 where
  pub chains : (answers : FilterAnswers) (chain : Chain) (e : Environment) →
      chain_value answers chain e ≡
      chain_value answers (record {
        entry = chain.entry;
        filters = map (spelled_call e) chain.filters;
      }) e
  -- of a block of a host
  pub blocks : (answers : FilterAnswers) (calls : List FilterCall) (d : Datum) (e : Environment) →
      through answers calls d e ≡ through answers (map (spelled_call e) calls) d e
