-- A filter's answer stands in the relation that holds of it alone.
use Rattle.std.proofs.Common.{List}
use Rattle.std.specs.Prelude.{Result}
use Rattle.liquid_model.specs.Answer.{Answers}
use Rattle.liquid_model.specs.Data.{Datum}
use Rattle.liquid_model.specs.View.{view}
use Rattle.liquid_model.specs.declared.error.Error.{Error}
use Rattle.liquid_model.specs.declared.value.Value.{Value}
use Rattle.liquid_model.proofs.Utf8.{text_is_utf8}
use Rattle.liquid_model.specs.Satisfies.{Satisfies}
use Rattle.liquid_model.proofs.Standing.{satisfies}
use Rattle.liquid_filters.specs.Escapes.{escape_answer, escape_once_answer}
use Rattle.liquid_filters.specs.HtmlLaws.{BreaksLines, EscapeIsOne, EscapeOnceIsOne, EscapesOnce, EscapesText, NewlineToBrIsOne, StripsTags}
use Rattle.liquid_filters.specs.LineBreaks.{newline_to_br_answer}
use Rattle.liquid_filters.specs.Tags.{strip_html_answer}
use Rattle.liquid_filters.specs.UrlLaws.{EncodesUrl, UrlDecodes}
use Rattle.liquid_filters.specs.Urls.{url_decode_answer, url_encode_answer}
use Rattle.liquid_filters.proofs.HtmlLaws.{escape_one, escape_once_one, newline_to_br_one}
use Rattle.liquid_filters.proofs.Pairs.{strip_html_one}
use Rattle.liquid_filters.proofs.UrlLaws.{url_decode_one, url_encode_one}

pub escape_law : EscapeIsOne
escape_law input args = escape_one (view input) args (text_is_utf8 input)

pub escapes : (input : Value) (args : List Datum) (r : Result Value Error) → Answers view r (escape_answer (view input) args) → Satisfies (EscapesText (view input)) r
escapes input args r = satisfies (EscapesText (view input)) (escape_answer (view input) args) r (escape_law input args)

pub escape_once_law : EscapeOnceIsOne
escape_once_law input args = escape_once_one (view input) args (text_is_utf8 input)

pub escapes_once : (input : Value) (args : List Datum) (r : Result Value Error) → Answers view r (escape_once_answer (view input) args) → Satisfies (EscapesOnce (view input)) r
escapes_once input args r = satisfies (EscapesOnce (view input)) (escape_once_answer (view input) args) r (escape_once_law input args)

pub newline_to_br_law : NewlineToBrIsOne
newline_to_br_law input args = newline_to_br_one (view input) args (text_is_utf8 input)

pub breaks_lines : (input : Value) (args : List Datum) (r : Result Value Error) → Answers view r (newline_to_br_answer (view input) args) → Satisfies (BreaksLines (view input)) r
breaks_lines input args r = satisfies (BreaksLines (view input)) (newline_to_br_answer (view input) args) r (newline_to_br_law input args)

pub strips_tags : (d : Datum) (args : List Datum) (r : Result Value Error) → Answers view r (strip_html_answer d args) → Satisfies (StripsTags d) r
strips_tags d args r = satisfies (StripsTags d) (strip_html_answer d args) r (strip_html_one d args)

pub encodes_url : (d : Datum) (args : List Datum) (r : Result Value Error) → Answers view r (url_encode_answer d args) → Satisfies (EncodesUrl d) r
encodes_url d args r = satisfies (EncodesUrl d) (url_encode_answer d args) r (url_encode_one d args)

pub decodes_url : (d : Datum) (args : List Datum) (r : Result Value Error) → Answers view r (url_decode_answer d args) → Satisfies (UrlDecodes d) r
decodes_url d args r = satisfies (UrlDecodes d) (url_decode_answer d args) r (url_decode_one d args)
