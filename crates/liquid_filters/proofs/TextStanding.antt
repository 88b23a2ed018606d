-- A text filter's answer stands in the relation that holds of it alone.
use Rattle.std.proofs.Common.{List}
use Rattle.std.specs.Prelude.{Result}
use Rattle.liquid_model.specs.Answer.{Answers}
use Rattle.liquid_model.specs.Data.{Datum}
use Rattle.liquid_model.specs.View.{view}
use Rattle.liquid_model.specs.declared.error.Error.{Error}
use Rattle.liquid_model.specs.declared.value.Value.{Value}
use Rattle.liquid_model.proofs.Utf8.{text_is_utf8}
use Rattle.liquid_model.specs.Satisfies.{Satisfies}
use Rattle.liquid_model.proofs.Standing.{satisfies}
use Rattle.liquid_filters.specs.Case.{capitalize_answer, downcase_answer, upcase_answer}
use Rattle.liquid_filters.specs.Operate.{remove_answer, remove_first_answer, replace_answer, replace_first_answer}
use Rattle.liquid_filters.specs.Slice.{slice_answer}
use Rattle.liquid_filters.specs.Split.{split_answer}
use Rattle.liquid_filters.specs.Strip.{lstrip_answer, rstrip_answer, strip_answer, strip_newlines_answer}
use Rattle.liquid_filters.specs.Truncate.{truncate_answer, truncatewords_answer}
use Rattle.liquid_filters.specs.TextLaws.{CapitalizeIsOne, CapitalizesText, DowncaseIsOne, Downcases, LstripIsOne, RemoveIsOne, RemovesAll, RemovesOne, ReplaceIsOne, ReplacesAll, ReplacesOne, RstripIsOne, SlicesInput, SplitIsOne, SplitsText, StripIsOne, StripNewlinesIsOne, StripsLines, StripsText, StripsTextAtEnd, StripsTextAtStart, TruncatesText, TruncatesTextByWords, UpcaseIsOne, Upcases}
use Rattle.liquid_filters.proofs.TextOnes.{capitalize_relates, downcase_relates, lstrip_relates, remove_first_law, remove_relates, replace_first_law, replace_relates, rstrip_relates, slice_law, split_relates, strip_newlines_relates, strip_relates, truncate_law, truncatewords_law, upcase_relates}

pub downcase_law : DowncaseIsOne
downcase_law input args = downcase_relates (view input) args (text_is_utf8 input)

pub downcases : (input : Value) (args : List Datum) (r : Result Value Error) → Answers view r (downcase_answer (view input) args) → Satisfies (Downcases (view input) args) r
downcases input args r = satisfies (Downcases (view input) args) (downcase_answer (view input) args) r (downcase_law input args)

pub upcase_law : UpcaseIsOne
upcase_law input args = upcase_relates (view input) args (text_is_utf8 input)

pub upcases : (input : Value) (args : List Datum) (r : Result Value Error) → Answers view r (upcase_answer (view input) args) → Satisfies (Upcases (view input) args) r
upcases input args r = satisfies (Upcases (view input) args) (upcase_answer (view input) args) r (upcase_law input args)

pub capitalize_law : CapitalizeIsOne
capitalize_law input args = capitalize_relates (view input) args (text_is_utf8 input)

pub capitalizes : (input : Value) (args : List Datum) (r : Result Value Error) → Answers view r (capitalize_answer (view input) args) → Satisfies (CapitalizesText (view input) args) r
capitalizes input args r = satisfies (CapitalizesText (view input) args) (capitalize_answer (view input) args) r (capitalize_law input args)

pub strip_law : StripIsOne
strip_law input args = strip_relates (view input) args (text_is_utf8 input)

pub strips : (input : Value) (args : List Datum) (r : Result Value Error) → Answers view r (strip_answer (view input) args) → Satisfies (StripsText (view input) args) r
strips input args r = satisfies (StripsText (view input) args) (strip_answer (view input) args) r (strip_law input args)

pub lstrip_law : LstripIsOne
lstrip_law input args = lstrip_relates (view input) args (text_is_utf8 input)

pub strips_at_start : (input : Value) (args : List Datum) (r : Result Value Error) → Answers view r (lstrip_answer (view input) args) → Satisfies (StripsTextAtStart (view input) args) r
strips_at_start input args r = satisfies (StripsTextAtStart (view input) args) (lstrip_answer (view input) args) r (lstrip_law input args)

pub rstrip_law : RstripIsOne
rstrip_law input args = rstrip_relates (view input) args (text_is_utf8 input)

pub strips_at_end : (input : Value) (args : List Datum) (r : Result Value Error) → Answers view r (rstrip_answer (view input) args) → Satisfies (StripsTextAtEnd (view input) args) r
strips_at_end input args r = satisfies (StripsTextAtEnd (view input) args) (rstrip_answer (view input) args) r (rstrip_law input args)

pub strip_newlines_law : StripNewlinesIsOne
strip_newlines_law input args = strip_newlines_relates (view input) args (text_is_utf8 input)

pub strips_lines : (input : Value) (args : List Datum) (r : Result Value Error) → Answers view r (strip_newlines_answer (view input) args) → Satisfies (StripsLines (view input) args) r
strips_lines input args r = satisfies (StripsLines (view input) args) (strip_newlines_answer (view input) args) r (strip_newlines_law input args)

pub replace_law : ReplaceIsOne
replace_law input args = replace_relates (view input) args (text_is_utf8 input)

pub replaces_all : (input : Value) (args : List Datum) (r : Result Value Error) → Answers view r (replace_answer (view input) args) → Satisfies (ReplacesAll (view input) args) r
replaces_all input args r = satisfies (ReplacesAll (view input) args) (replace_answer (view input) args) r (replace_law input args)

pub replaces_one_place : (d : Datum) (args : List Datum) (r : Result Value Error) → Answers view r (replace_first_answer d args) → Satisfies (ReplacesOne d args) r
replaces_one_place d args r = satisfies (ReplacesOne d args) (replace_first_answer d args) r (replace_first_law d args)

pub remove_law : RemoveIsOne
remove_law input args = remove_relates (view input) args (text_is_utf8 input)

pub removes_all : (input : Value) (args : List Datum) (r : Result Value Error) → Answers view r (remove_answer (view input) args) → Satisfies (RemovesAll (view input) args) r
removes_all input args r = satisfies (RemovesAll (view input) args) (remove_answer (view input) args) r (remove_law input args)

pub removes_one_place : (d : Datum) (args : List Datum) (r : Result Value Error) → Answers view r (remove_first_answer d args) → Satisfies (RemovesOne d args) r
removes_one_place d args r = satisfies (RemovesOne d args) (remove_first_answer d args) r (remove_first_law d args)

pub split_law : SplitIsOne
split_law input args = split_relates (view input) args (text_is_utf8 input)

pub splits_text : (input : Value) (args : List Datum) (r : Result Value Error) → Answers view r (split_answer (view input) args) → Satisfies (SplitsText (view input) args) r
splits_text input args r = satisfies (SplitsText (view input) args) (split_answer (view input) args) r (split_law input args)

pub truncates_text : (d : Datum) (args : List Datum) (r : Result Value Error) → Answers view r (truncate_answer d args) → Satisfies (TruncatesText d args) r
truncates_text d args r = satisfies (TruncatesText d args) (truncate_answer d args) r (truncate_law d args)

pub truncates_by_words : (d : Datum) (args : List Datum) (r : Result Value Error) → Answers view r (truncatewords_answer d args) → Satisfies (TruncatesTextByWords d args) r
truncates_by_words d args r = satisfies (TruncatesTextByWords d args) (truncatewords_answer d args) r (truncatewords_law d args)

pub slices_input : (d : Datum) (args : List Datum) (r : Result Value Error) → Answers view r (slice_answer d args) → Satisfies (SlicesInput d args) r
slices_input d args r = satisfies (SlicesInput d args) (slice_answer d args) r (slice_law d args)
