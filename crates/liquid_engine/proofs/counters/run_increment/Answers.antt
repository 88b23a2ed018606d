use Rattle.std.proofs.Common.{rules, ◌≡◌, subst, Ok, FitsSigned, w64, to_z, of_z}
use Rattle.std.proofs.lemmas.Int.{to_z-of_z}
use Rattle.std.proofs.lemmas.Result.{err_from_is_err_and}
use Rattle.std.specs.Prelude.{pos, ◌+ℤ◌}
use Rattle.liquid_model.specs.Answer.{Faulted}
use Rattle.liquid_evaluation.specs.Names.{node_names}
use Rattle.liquid_engine.specs.inside.Counters.{in_i64, shown_and_stored}
use Rattle.liquid_engine.specs.Performs.{Performs, configuration_of}
use Rattle.liquid_engine.proofs.Counting.{counts, counts_too_far}
use Rattle.liquid_engine.proofs.Joined.{by_rule}
use Rattle.liquid_meaning.proofs.Rules.{increment_rule}
use Rattle.liquid_engine.proofs.Reserves.{no_less}
use Rattle.liquid_engine.proofs.counters.run_increment.Goals as goal

pub returns-in_err-more-clause-performs : goal.returns-in_err-more-clause-performs
returns-in_err-more-clause-performs g c =
    let p = err_from_is_err_and c.from_residual.result c.from_residual.ensures.1 in
    let n = c.number_of-number.result in
    let fits : FitsSigned w64 c.number_of-number.result = search rules in
    let e = c.in_err-more.field-0.0 in
    rw (p.1, p.2) (by_rule (increment_rule _ _ _) (counts_too_far c.args.name.now (λ n. n) (λ n. n +ℤ pos 1) e n _ c.number_of-number.ensures (subst (λ z. Faulted e.kind (in_i64 (z +ℤ pos 1))) (to_z-of_z w64 n fits) c.in_err-more.ensures)))

pub returns-clause-performs : goal.returns-clause-performs
returns-clause-performs g c =
    let place = configuration_of g.W.CountedWrite.contents g.W.CountedWrite.failure_count in
    let n = c.number_of-number.result in
    let more = c.in_ok-more.more in
    let fits : FitsSigned w64 c.number_of-number.result = search rules in
    let fits_more : FitsSigned w64 c.in_ok-more.more = search rules in
    let is : in_i64 (n +ℤ pos 1) ≡ Ok more = subst (λ z. in_i64 (z +ℤ pos 1) ≡ Ok more) (to_z-of_z w64 n fits) c.in_ok-more.ensures in
    let a = place c.args.out.now c.args.state.now in
    let b = place c.show_and_store.new.out c.show_and_store.new.state in
    let done : Performs c.show_and_store.result (shown_and_stored c.args.name.now n more) a b =
    subst (λ z. Performs c.show_and_store.result (shown_and_stored c.args.name.now n z) a b) (to_z-of_z w64 more fits_more)
    (subst (λ z. Performs c.show_and_store.result (shown_and_stored c.args.name.now z (to_z w64 (of_z w64 more))) a b) (to_z-of_z w64 n fits) c.show_and_store.ensures.performs) in
    by_rule (increment_rule _ _ _) (counts c.args.name.now (λ n. n) (λ n. n +ℤ pos 1) c.show_and_store.result n more a b c.number_of-number.ensures is done)

pub returns-clause-kept : goal.returns-clause-kept
unfolding node_names
returns-clause-kept g c N within inside = c.show_and_store.ensures.kept N within.0

pub returns-in_err-more-clause-bounded : goal.returns-in_err-more-clause-bounded
returns-in_err-more-clause-bounded g c = no_less

pub returns-clause-bounded : goal.returns-clause-bounded
returns-clause-bounded g c = c.show_and_store.ensures.bounded
