use Rattle.std.proofs.Common.{inl, inr}
use Rattle.std.proofs.lemmas.Result.{IfOk-weaker}
use Rattle.liquid_warnings.proofs.text_tests.text_test.Goals as goal

pub returns-in-Number : goal.returns-in-Number
returns-in-Number c = IfOk-weaker c.text_number.result _ _ (λ r is. (c.args.test.name.now, inl (_, _, is))) c.text_number.ensures

pub returns-in-Truth : goal.returns-in-Truth
returns-in-Truth c = IfOk-weaker c.text_truth.result _ _ (λ r is. (c.args.test.name.now, inr (inl (_, _, is)))) c.text_truth.ensures

pub returns-in-Test : goal.returns-in-Test
returns-in-Test c = IfOk-weaker c.always_true.result _ _ (λ r is. (c.args.test.name.now, inr (inr (_, _, is)))) c.always_true.ensures
