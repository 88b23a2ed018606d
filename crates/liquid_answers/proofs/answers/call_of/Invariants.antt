use Rattle.std.proofs.Common.{◌≡◌, ◌∷◌, take, map}
use Rattle.liquid_model.specs.Data.{text}
use Rattle.liquid_model.specs.View.{view}
use Rattle.liquid_answers.proofs.answers.call_of.Given as goal

abbrev pub invariant-loop-argument : goal.invariant-loop-argument
invariant-loop-argument l = map view l.call.items ≡ text l.name ∷ view l.input ∷ map view (take l.argument-index l.args)
