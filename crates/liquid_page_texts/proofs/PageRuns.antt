-- What a run over a new runtime comes to, by what its builder was given.
use Rattle.std.proofs.Common.{◌≡◌, ℕ}
use Rattle.liquid_core.specs.Environment.{Environment}
use Rattle.liquid_evaluation.specs.Evaluation.{FilterAnswers}
use Rattle.liquid_evaluation.specs.Tree.{Nodes}
use Rattle.liquid_meaning.specs.Meaning.{meaning}
use Rattle.liquid_page_texts.specs.Page.{TemplateTrees}

pub outcome_same : (a b : FilterAnswers) (p q : TemplateTrees) (n m : ℕ) (tree : Nodes) (e f : Environment) → a ≡ b → p ≡ q → n ≡ m → e ≡ f
    → meaning (record { answers = a; partials = p }) n tree e ≡ meaning (record { answers = b; partials = q }) m tree f
outcome_same a b p q n m tree e f answers partials depth environment = λ i. meaning (record { answers = answers i; partials = partials i }) (depth i) tree (environment i)
