use Rattle.std.proofs.Common.{inl, inr}
use Rattle.liquid_warnings.proofs.AddedRemarks.{found_of}
use Rattle.liquid_warnings.specs.Sorts.{IsAlwaysTrue, IsDoubt, IsFalseDefault, IsNoKey, IsNoNumber, IsNoText, IsNoTruth, IsNumberDate, IsNumberText, IsPastEnd, IsTestedSize, IsTruthText, IsUndated, IsUnlisted, IsWholeMap}
use Rattle.liquid_warnings.proofs.doubts.remark_of.Goals as goal

pub returns-in-NoList : goal.returns-in-NoList
returns-in-NoList c = found_of IsUnlisted IsDoubt _ (λ s is. inr (inl is)) c.no_list_in.ensures

pub returns-in-PastEnd : goal.returns-in-PastEnd
returns-in-PastEnd c = found_of IsPastEnd IsDoubt _ (λ s is. inr (inr (inl is))) c.past_end_in.ensures

pub returns-in-NoDate : goal.returns-in-NoDate
returns-in-NoDate c = found_of IsUndated IsDoubt _ (λ s is. inr (inr (inr (inl is)))) c.no_date_in.ensures

pub returns-in-NumberText : goal.returns-in-NumberText
returns-in-NumberText c = found_of IsNumberText IsDoubt _ (λ s is. inr (inr (inr (inr (inl is))))) c.number_text_in.ensures

pub returns-in-TruthText : goal.returns-in-TruthText
returns-in-TruthText c = found_of IsTruthText IsDoubt _ (λ s is. inr (inr (inr (inr (inr (inl is)))))) c.truth_text_in.ensures

pub returns-in-NoText : goal.returns-in-NoText
returns-in-NoText c = found_of IsNoText IsDoubt _ (λ s is. inr (inr (inr (inr (inr (inr (inl is))))))) c.no_text_in.ensures

pub returns-in-NoNumber : goal.returns-in-NoNumber
returns-in-NoNumber c = found_of IsNoNumber IsDoubt _ (λ s is. inr (inr (inr (inr (inr (inr (inr (inr (inl is))))))))) c.no_number_in.ensures

pub returns-in-NoTruth : goal.returns-in-NoTruth
returns-in-NoTruth c = found_of IsNoTruth IsDoubt _ (λ s is. inr (inr (inr (inr (inr (inr (inr (inr (inr (inl is)))))))))) c.no_truth_in.ensures

pub returns-in-WholeMap : goal.returns-in-WholeMap
returns-in-WholeMap c = found_of IsWholeMap IsDoubt _ (λ s is. inr (inr (inr (inr (inr (inr (inr (inr (inr (inr (inl is))))))))))) c.whole_map_in.ensures

pub returns-in-NoKey : goal.returns-in-NoKey
returns-in-NoKey c = found_of IsNoKey IsDoubt _ (λ s is. inr (inr (inr (inr (inr (inr (inr (inr (inr (inr (inr (inl is)))))))))))) c.no_key_in.ensures

pub returns-in-TestedSize : goal.returns-in-TestedSize
returns-in-TestedSize c = found_of IsTestedSize IsDoubt _ (λ s is. inr (inr (inr (inr (inr (inr (inr (inr (inr (inr (inr (inr (inl is))))))))))))) c.tested_size_in.ensures

pub returns-in-FalseDefault : goal.returns-in-FalseDefault
returns-in-FalseDefault c = found_of IsFalseDefault IsDoubt _ (λ s is. inr (inr (inr (inr (inr (inr (inr (inr (inr (inr (inr (inr (inr (inl is)))))))))))))) c.false_default_in.ensures

pub returns-in-NumberDate : goal.returns-in-NumberDate
returns-in-NumberDate c = found_of IsNumberDate IsDoubt _ (λ s is. inr (inr (inr (inr (inr (inr (inr (inr (inr (inr (inr (inr (inr (inr (is))))))))))))))) c.number_date_in.ensures

pub returns : goal.returns
returns c = found_of IsAlwaysTrue IsDoubt _ (λ s is. inr (inr (inr (inr (inr (inr (inr (inl is)))))))) c.always_true_in.ensures
