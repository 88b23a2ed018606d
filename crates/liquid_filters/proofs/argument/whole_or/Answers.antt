use Rattle.std.proofs.Common.{ℤ, ◌<◌, List, length, subst, sym, arith}
use Rattle.std.proofs.lemmas.Bool.Decides.{nat_tests}
use Rattle.liquid_model.specs.Answer.{Answers}
use Rattle.liquid_model.specs.Data.{Datum}
use Rattle.liquid_filters.specs.Arguments.{whole_or}
use Rattle.liquid_filters.proofs.Views.{drop_at}
use Rattle.liquid_filters.proofs.argument.whole_or.Goals as goal

pub returns-in-Some : goal.returns-in-Some
returns-in-Some c =
    let found = c.in-Some.ensures.lookup in
    let within : c.args.index < length c.args.args.now = grind (arith, nat_tests, found.0) in
    subst (λ (ds : List Datum). Answers (λ (n : ℤ). n) c.whole_argument.result (whole_or c.args.fallback ds)) (sym (drop_at c.args.args.now c.args.index c.in-Some.value.now _ within found.1)) c.whole_argument.ensures.answer
