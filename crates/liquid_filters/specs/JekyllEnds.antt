-- Lists with an item more or less at an end: the filters `push`, `unshift`, `pop` and `shift`.
use Rattle.std.specs.Prelude.{◌-◌, List, [], ◌∷◌, ◌++◌, length, take, drop, Err}
use Rattle.liquid_model.specs.Data.{Datum}
use Rattle.liquid_model.specs.declared.error.ErrorKind.TheVariants.{InvalidArgument}
use Rattle.liquid_model.specs.Arguments.{Answer}
use Rattle.liquid_filters.specs.Sequences.{of_list}

abbrev pub without_last : List Datum → List Datum
without_last ds = take (length ds - 1) ds

abbrev pub push_answer : Datum → List Datum → Answer
push_answer d [] = Err InvalidArgument
push_answer d (x ∷ args) = of_list (λ ds. ds ++ x ∷ []) d

abbrev pub unshift_answer : Datum → List Datum → Answer
unshift_answer d [] = Err InvalidArgument
unshift_answer d (x ∷ args) = of_list (λ ds. x ∷ ds) d

-- the empty list stays
abbrev pub pop_answer : Datum → List Datum → Answer
pop_answer d args = of_list without_last d

abbrev pub shift_answer : Datum → List Datum → Answer
shift_answer d args = of_list (drop 1) d
