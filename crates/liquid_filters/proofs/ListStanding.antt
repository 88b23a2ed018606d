-- A list filter's answer stands in the relation that holds of it alone.
use Rattle.std.proofs.Common.{List, [], ◌∷◌}
use Rattle.std.specs.Prelude.{Result}
use Rattle.liquid_model.specs.Answer.{Answers}
use Rattle.liquid_model.specs.Data.{Datum, text_of}
use Rattle.liquid_model.specs.View.{view}
use Rattle.liquid_model.specs.declared.error.Error.{Error}
use Rattle.liquid_model.specs.declared.value.Value.{Value}
use Rattle.liquid_model.specs.Arguments.{first_of}
use Rattle.liquid_model.specs.Satisfies.{Satisfies, WithFirst}
use Rattle.liquid_model.proofs.Standing.{none_given, satisfies}
use Rattle.liquid_filters.specs.Ends.{first_answer, last_answer}
use Rattle.liquid_filters.specs.Joined.{join_answer}
use Rattle.liquid_filters.specs.Keeping.{compact_answer, where_answer, map_answer, uniq_answer}
use Rattle.liquid_filters.specs.ListLaws.{Joins, Sorts, Compacts, Wheres, Maps, Uniqs, Reverses, Concats, OfEnds}
use Rattle.liquid_filters.specs.ListPlaces.{StartsWith, EndsWith}
use Rattle.liquid_filters.specs.Rows.{reverse_answer, concat_answer}
use Rattle.liquid_filters.specs.Sorting.{key_of, natural_key_of, sort_answer, sort_natural_answer}
use Rattle.liquid_filters.proofs.ListEachLaw.{join_is_one, sort_is_one, sort_natural_is_one, compact_is_one, where_is_one, map_is_one, uniq_is_one, reverse_is_one, concat_is_one, first_is_one, last_is_one}

pub joins : (d : Datum) (args : List Datum) (r : Result Value Error) → Answers view r (join_answer d args) → Satisfies (Joins d args) r
joins d args r = satisfies (Joins d args) (join_answer d args) r (join_is_one d args)

pub sorts : (d : Datum) (args : List Datum) (r : Result Value Error) → Answers view r (sort_answer d args) → Satisfies (Sorts key_of d args) r
sorts d args r = satisfies (Sorts key_of d args) (sort_answer d args) r (sort_is_one d args)

pub sorts_naturally : (d : Datum) (args : List Datum) (r : Result Value Error) → Answers view r (sort_natural_answer d args) → Satisfies (Sorts natural_key_of d args) r
sorts_naturally d args r = satisfies (Sorts natural_key_of d args) (sort_natural_answer d args) r (sort_natural_is_one d args)

pub compacts : (d : Datum) (args : List Datum) (r : Result Value Error) → Answers view r (compact_answer d args) → Satisfies (Compacts d args) r
compacts d args r = satisfies (Compacts d args) (compact_answer d args) r (compact_is_one d args)

pub wheres : (d : Datum) (args : List Datum) (r : Result Value Error) → Answers view r (where_answer d args) → Satisfies (WithFirst (λ name rest. Wheres (text_of name) (first_of rest) d) args) r
wheres d [] r h = none_given (λ name rest. Wheres (text_of name) (first_of rest) d) r
wheres d (name ∷ args) r h = satisfies (Wheres (text_of name) (first_of args) d) (where_answer d (name ∷ args)) r (where_is_one d name args) h

pub maps : (d : Datum) (args : List Datum) (r : Result Value Error) → Answers view r (map_answer d args) → Satisfies (WithFirst (λ name rest. Maps (text_of name) d) args) r
maps d [] r h = none_given (λ name rest. Maps (text_of name) d) r
maps d (name ∷ args) r h = satisfies (Maps (text_of name) d) (map_answer d (name ∷ args)) r (map_is_one d name args) h

pub uniqs : (d : Datum) (args : List Datum) (r : Result Value Error) → Answers view r (uniq_answer d args) → Satisfies (Uniqs d) r
uniqs d args r = satisfies (Uniqs d) (uniq_answer d args) r (uniq_is_one d args)

pub reverses : (d : Datum) (args : List Datum) (r : Result Value Error) → Answers view r (reverse_answer d args) → Satisfies (Reverses d) r
reverses d args r = satisfies (Reverses d) (reverse_answer d args) r (reverse_is_one d args)

pub concats : (d : Datum) (args : List Datum) (r : Result Value Error) → Answers view r (concat_answer d args) → Satisfies (WithFirst (λ e rest. Concats e d) args) r
concats d [] r h = none_given (λ e rest. Concats e d) r
concats d (e ∷ args) r h = satisfies (Concats e d) (concat_answer d (e ∷ args)) r (concat_is_one d e args) h

pub firsts : (d : Datum) (args : List Datum) (r : Result Value Error) → Answers view r (first_answer d args) → Satisfies (OfEnds StartsWith StartsWith d) r
firsts d args r = satisfies (OfEnds StartsWith StartsWith d) (first_answer d args) r (first_is_one d args)

pub lasts : (d : Datum) (args : List Datum) (r : Result Value Error) → Answers view r (last_answer d args) → Satisfies (OfEnds EndsWith EndsWith d) r
lasts d args r = satisfies (OfEnds EndsWith EndsWith d) (last_answer d args) r (last_is_one d args)
