-- The written form of a loop's source: how it stands in a template's source.
use Rattle.std.specs.Prelude.{◌++◌, codes}
use Rattle.liquid_model.specs.Texts.{Text}
use Rattle.liquid_core.specs.Written.{written_form}
use Rattle.liquid_evaluation.specs.Tree.{Source, each_of, counted}

-- a range has its ends in parentheses, with two points between them
abbrev pub written_source : Source → Text
written_source (each_of x) = written_form x
written_source (counted first last) =
    codes "(" ++ (written_form first ++ (codes ".." ++ (written_form last ++ codes ")")))
