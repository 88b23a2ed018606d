-- The filters by which a stored chain is run: how many arguments each takes, and what it answers.
use Rattle.std.specs.Prelude.{ℕ, Bool, true}
use Rattle.liquid_model.specs.Texts.{Text}
use Rattle.liquid_model.specs.FilterAnswers.{FilterAnswer}
use Rattle.liquid_filters.specs.Kinds.{kind_counts, kind_answer}
use Rattle.liquid_evaluation.specs.declared.any_filter.AnyFilter.{AnyFilter}
use Rattle.liquid_evaluation.specs.declared.any_filter.AnyFilter.TheVariants.{Kind, Host}

abbrev pub any_counts : {H : Type 0} → AnyFilter H → ℕ → Bool
any_counts (Kind kind) n = kind_counts kind n
any_counts (Host name filters) n = true

-- named is what the filters of the host answer
abbrev pub any_answer : {H : Type 0} → (H → Text → FilterAnswer) → AnyFilter H → FilterAnswer
any_answer named (Kind kind) = kind_answer kind
any_answer named (Host name filters) = named filters.now name.now
