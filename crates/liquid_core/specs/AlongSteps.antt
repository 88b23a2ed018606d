-- What the steps of a variable lead to, step by step.
use Rattle.std.specs.Prelude.{Option, Some}
use Rattle.std.specs.Option.{option_and_then}
use Rattle.liquid_model.specs.Data.{Datum}
use Rattle.liquid_model.specs.Find as finding
use Rattle.liquid_core.specs.Environment.{Environment}
use Rattle.liquid_core.specs.Expression.{Steps, no_steps, step}
use Rattle.liquid_core.specs.Expressions.{value_of}

-- what the steps lead to from d
abbrev pub value_along_steps : Datum → Steps → Environment → Option Datum
value_along_steps d no_steps e = Some d
value_along_steps d (step x more) e =
    option_and_then (λ s. option_and_then (λ next. value_along_steps next more e)
    (finding.step d s)) (value_of x e)
