-- What expressions are in an environment: a value, or a kind.
--     value_of x e      the value, or `None` where it is missing
--     required x e      where it is missing, UnknownVariable, or nil where a missing value is nil
--     sought x e      the same, with `None` in place of that nil
use Rattle.std.specs.Prelude.{ℤ, pos, Bool, true, cond, List, [], ◌∷◌, Option, Some, None, Result}
use Rattle.std.specs.Prelude.{Ok, Err}
use Rattle.std.specs.Option.{option_and_then, ok_or, unwrap_or}
use Rattle.liquid_model.specs.declared.error.ErrorKind.{ErrorKind}
use Rattle.liquid_model.specs.declared.error.ErrorKind.TheVariants.{UnknownVariable}
use Rattle.liquid_model.specs.declared.error.ErrorKind.TheVariants.{UnexpectedValue}
use Rattle.liquid_model.specs.Data.{Datum, nil, scalar, text_of, is_text}
use Rattle.liquid_model.specs.Whole.{whole}
use Rattle.liquid_model.specs.Find.{find}
use Rattle.liquid_core.specs.Expression.{Expression, literal, variable, Steps, no_steps, step}
use Rattle.liquid_core.specs.Environment.{Environment, lookup}
use Rattle.liquid_core.specs.declared.missing_value.Missing.{Missing}
use Rattle.liquid_core.specs.declared.missing_value.Missing.TheVariants.{IsFault, IsNil}
use Rattle.liquid_model.specs.Fallible.{◌>>=◌}

-- the value of a path: the text of its first step is a name, and the others lead on from that
-- name's value
abbrev pub value_along : Environment → List Datum → Option Datum
value_along e [] = None
value_along e (name ∷ path) = option_and_then (λ d. find d path) (lookup e (text_of name))

-- a path whose name is a text already (so is the empty path, which has none)
abbrev pub begins_with_text : List Datum → Bool
begins_with_text [] = true
begins_with_text (name ∷ path) = is_text name

unfoldable mutual
  pub value_of : Expression → Environment → Option Datum
  value_of (literal d) e = Some d
  value_of (variable name steps) e =
      option_and_then (λ path. option_and_then (λ found. find found path) (lookup e name))
      (path_of steps e)

  -- the values of the steps, each of them a scalar
  pub path_of : Steps → Environment → Option (List Datum)
  path_of no_steps e = Some []
  path_of (step x more) e =
      option_and_then (λ d. cond (scalar d) (option_and_then (λ ds. Some (d ∷ ds)) (path_of more e))
      None) (value_of x e)

-- where a missing value is a fault, the fault of this kind; else a, which stands for what is
-- missing or nil
abbrev pub forgiven : {A : Type 0} → ErrorKind → A → Missing → Result A ErrorKind
forgiven kind a IsFault = Err kind
forgiven kind a IsNil = Ok a

-- a in the place of a missing value
abbrev pub if_missing : {A : Type 0} → A → Missing → Result A ErrorKind
if_missing a missing = forgiven UnknownVariable a missing

abbrev pub nil_if_missing : Missing → Option Datum → Result Datum ErrorKind
nil_if_missing missing (Some d) = Ok d
nil_if_missing missing None = if_missing nil missing

abbrev pub none_if_missing : Missing → Option Datum → Result (Option Datum) ErrorKind
none_if_missing missing (Some d) = Ok (Some d)
none_if_missing missing None = if_missing None missing

abbrev pub required : Expression → Environment → Result Datum ErrorKind
required x e = nil_if_missing e.missing (value_of x e)

abbrev pub sought : Expression → Environment → Result (Option Datum) ErrorKind
sought x e = none_if_missing e.missing (value_of x e)

-- nil is no whole number, and counts as none where a missing value is nil
abbrev pub whole_found : Missing → Option Datum → Result (Option ℤ) ErrorKind
whole_found missing None = Ok None
whole_found missing (Some nil) = forgiven UnexpectedValue None missing
whole_found missing (Some d) = do
  n ← ok_or (whole d) UnexpectedValue
  Ok (Some n)

-- the whole number of an expression's value
unfoldable pub sought_whole : Expression → Environment → Result (Option ℤ) ErrorKind
sought_whole x e = do
  found ← sought x e
  whole_found e.missing found

-- the same, with 0 in place of `None`
unfoldable pub needed_whole : Expression → Environment → Result ℤ ErrorKind
needed_whole x e = do
  n ← sought_whole x e
  Ok (unwrap_or n (pos 0))
