-- An expression as a template spells it, for messages: `user.name`, `tags[0]`, `a["b c"]`,
-- `products[first].title`.
use Rattle.std.specs.Prelude.{ℕ, Bool, false, cond, ◌&&◌, ◌||◌, ◌==◌, [], ◌∷◌, ◌++◌, codes}
use Rattle.std.specs.Char.{is_ascii_alphabetic, is_ascii_digit}
use Rattle.std.specs.List.{list_all}
use Rattle.liquid_model.specs.Texts.{Text}
use Rattle.liquid_model.specs.Data.{text}
use Rattle.liquid_core.specs.Expression.{Expression, literal, variable, Steps, no_steps, step}
use Rattle.liquid_core.specs.Written.{written_literal}

-- a letter or `_`, with which a name begins
abbrev pub begins_name : ℕ → Bool
begins_name b = is_ascii_alphabetic b || b == 95

-- a letter, a digit, `_` or `-`
abbrev pub goes_on_in_name : ℕ → Bool
goes_on_in_name b = begins_name b || is_ascii_digit b || b == 45

-- a text that may follow a dot
abbrev pub is_name : Text → Bool
is_name [] = false
is_name (b ∷ bs) = begins_name b && list_all goes_on_in_name bs

-- a text as a step: after a dot where it is a name, else in brackets and quotes
abbrev pub spelled_key : Text → Text
spelled_key s = cond (is_name s) (codes "." ++ s) (codes "[\"" ++ (s ++ codes "\"]"))

-- a step that is spelled so by itself: a literal text as a key, and any other in brackets
abbrev pub as_step : Expression → Text → Text
as_step (literal (text s)) whole = spelled_key s
as_step x whole = codes "[" ++ (whole ++ codes "]")

abbrev mutual
  -- a literal, or a name with its steps
  pub spelled : Expression → Text
  spelled (literal d) = written_literal d
  spelled (variable name steps) = name ++ spelled_steps steps

  pub spelled_steps : Steps → Text
  spelled_steps no_steps = []
  spelled_steps (step x more) = as_step x (spelled x) ++ spelled_steps more
