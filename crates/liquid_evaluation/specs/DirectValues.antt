-- Short answers about a chain's value.
use Rattle.std.specs.Prelude.{◌≡◌, ⊤, Ok}
use Rattle.liquid_model.specs.Data.{number, truth}
use Rattle.liquid_model.specs.View.{view}
use Rattle.liquid_core.specs.Environment.{Environment}
use Rattle.liquid_core.specs.declared.resolved.DirectValue.{DirectValue}
use Rattle.liquid_core.specs.declared.resolved.DirectValue.TheVariants.{Held, Number, Truth}
use Rattle.liquid_core.specs.declared.resolved.DirectValue.TheVariants.{Loop, Nothing, Unknown}
use Rattle.liquid_evaluation.specs.Tree.{Chain}
use Rattle.liquid_evaluation.specs.Evaluation.{FilterAnswers, chain_value}

-- the value is that of the short answer, whatever the filters answer
abbrev pub ChainDirectlyIs : DirectValue → Chain → Environment → Type 0
ChainDirectlyIs (Held v) chain e = (answers : FilterAnswers) → chain_value answers chain e ≡ Ok
    (view v.now)
ChainDirectlyIs (Number n) chain e = (answers : FilterAnswers) → chain_value answers chain e ≡ Ok
    (number n)
ChainDirectlyIs (Truth b) chain e = (answers : FilterAnswers) → chain_value answers chain e ≡ Ok
    (truth b)
ChainDirectlyIs (Loop t) chain e = ⊤
ChainDirectlyIs Nothing chain e = ⊤
ChainDirectlyIs Unknown chain e = ⊤
