use Rattle.std.proofs.Common.{rules, inl, inr}
use Rattle.liquid_model.proofs.Sizes.{number_not_size, truth_not_size}
use Rattle.liquid_model.specs.declared.value.Value.{the_lemmas}
use Rattle.liquid_model.proofs.find.scalar_stepped.Goals as goal

pub returns-in-Bool : goal.returns-in-Bool
returns-in-Bool c =
    elim c.in-Bool.is [
      | inl b ↦ rw b.1 (search (rules, the_lemmas, truth_not_size b.0 c.args.n))
      | inr z ↦ rw z.1 (search (rules, the_lemmas, number_not_size z.0 c.args.n))
    ]
