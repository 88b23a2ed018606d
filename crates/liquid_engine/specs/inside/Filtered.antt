-- What a block of a host does with the text of its body.
use Rattle.std.specs.Prelude.{List}
use Rattle.liquid_model.specs.Data.{text, text_of}
use Rattle.liquid_model.specs.Texts.{Text}
use Rattle.liquid_evaluation.specs.Evaluation.{FilterAnswers, through}
use Rattle.liquid_evaluation.specs.Tree.{FilterCall}
use Rattle.liquid_meaning.specs.Runs.{Nothing, Run, evaluate, write, ◌>>=◌}

-- the text goes through the filters, and what comes of it is written
abbrev pub written_through : FilterAnswers → List FilterCall → Text → Run Nothing
written_through answers filters t =
    evaluate (through answers filters (text t)) >>= (λ d. write (text_of d))
