-- The bytes of what the filters of a chain make.
use Rattle.std.specs.Prelude.{ℕ, ◌+◌, List, [], ◌∷◌, Result, Ok, Err}
use Rattle.liquid_model.specs.Data.{Datum}
use Rattle.liquid_model.specs.ValueSizes.{counted_size, value_size}
use Rattle.liquid_model.specs.declared.error.ErrorKind.{ErrorKind}
use Rattle.liquid_core.specs.Environment.{Environment}
use Rattle.liquid_core.specs.Expressions.{value_of}
use Rattle.liquid_evaluation.specs.Calls.{Call, applied}
use Rattle.liquid_evaluation.specs.Evaluation.{FilterAnswers, answers_in, calls_by, entry_value}
use Rattle.liquid_evaluation.specs.Tree.{Chain, FilterCall}

-- the bytes that come of a value, where there is one
abbrev pub bytes_on : (Datum → ℕ) → Result Datum ErrorKind → ℕ
bytes_on bytes (Ok d) = bytes d
bytes_on bytes (Err kind) = 0

-- the bytes of each answer, of the calls in order, up to the first fault
abbrev pub made_bytes : List Call → Datum → Environment → ℕ
made_bytes [] d e = 0
made_bytes (call ∷ calls) d e =
    bytes_on (λ a. counted_size (value_size a) + made_bytes calls a e) (applied (call ∷ []) d e)

-- those of filters that a value goes through
abbrev pub through_bytes : FilterAnswers → List FilterCall → Datum → Environment → ℕ
through_bytes answers filters d e = made_bytes (calls_by (answers_in e.missing answers) filters) d e

-- those of a chain's filters, from the value of its entry
abbrev pub chain_bytes : FilterAnswers → Chain → Environment → ℕ
chain_bytes answers chain e = bytes_on (λ d. through_bytes answers chain.filters d e)
    (entry_value e.missing (value_of chain.entry e) chain.filters)
