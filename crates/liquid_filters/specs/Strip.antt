-- Filters that cut white space, which is Unicode's White_Space, and newlines.
use Rattle.std.specs.Prelude.{ℕ, List, Bool, ◌==◌, ◌||◌, not, filter}
use Rattle.std.specs.Str.{chars, encode_utf8_all, trim, trim_start, trim_end}
use Rattle.liquid_model.specs.Data.{Datum}
use Rattle.liquid_model.specs.Arguments.{Answer}
use Rattle.liquid_model.specs.Text.{of_text}

-- LF and CR
abbrev pub is_newline : ℕ → Bool
is_newline c = c == 10 || c == 13

abbrev pub without_newlines : List ℕ → List ℕ
without_newlines s = encode_utf8_all (filter (λ c. not (is_newline c)) (chars s))

-- without CRs alone
abbrev pub without_returns : List ℕ → List ℕ
without_returns s = encode_utf8_all (filter (λ c. not (c == 13)) (chars s))

abbrev pub strip_answer : Datum → List Datum → Answer
strip_answer = of_text trim

abbrev pub lstrip_answer : Datum → List Datum → Answer
lstrip_answer = of_text trim_start

abbrev pub rstrip_answer : Datum → List Datum → Answer
rstrip_answer = of_text trim_end

abbrev pub strip_newlines_answer : Datum → List Datum → Answer
strip_newlines_answer = of_text without_newlines
