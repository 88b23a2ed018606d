-- The written form of an expression: how it stands in a template's source.
--     a literal      a text in double quotes, a decimal number, `nil`, `true` or `false` (a list or
--                    map has its text)
--     a variable      its name, then each step in brackets, by its own written form
use Rattle.std.specs.Prelude.{[], ◌++◌, codes}
use Rattle.liquid_model.specs.Texts.{Text}
use Rattle.liquid_model.specs.Data.{Datum, nil, text, text_of}
use Rattle.liquid_core.specs.Expression.{Expression, literal, variable, Steps, no_steps, step}

-- a text in double quotes, `nil`, or the text of any other value
abbrev pub written_literal : Datum → Text
written_literal nil = codes "nil"
written_literal (text s) = codes "\"" ++ (s ++ codes "\"")
written_literal d = text_of d

abbrev mutual
  -- a variable's name and its steps
  pub written_form : Expression → Text
  written_form (literal d) = written_literal d
  written_form (variable name steps) = name ++ written_steps steps

  -- each step in brackets, by its own written form
  pub written_steps : Steps → Text
  written_steps no_steps = []
  written_steps (step x more) = codes "[" ++ (written_form x ++ (codes "]" ++ written_steps more))
