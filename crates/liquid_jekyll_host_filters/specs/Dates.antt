-- What the filters over dates answer: what `date` answers by a pattern of their own.
use Rattle.std.specs.Prelude.{Bool, true, false, ◌||◌, List, [], ◌∷◌, ◌++◌, Result, Ok, Err, codes}
use Rattle.std.specs.Prelude.{is_some, if◌then◌else◌}
use Rattle.liquid_model.specs.Data.{Datum, nil, text}
use Rattle.liquid_model.specs.Fallible.{◌>>=◌}
use Rattle.liquid_model.specs.Texts.{Text, same_text}
use Rattle.liquid_model.specs.declared.error.ErrorKind.{ErrorKind}
use Rattle.liquid_model.specs.declared.error.ErrorKind.TheVariants.{InvalidInput}
use Rattle.liquid_model.specs.Arguments.{Answer}
use Rattle.liquid_filters.specs.Dates.{date_answer}
use Rattle.liquid_filters.specs.DateSpelling.{read}
use Rattle.liquid_jekyll_host_filters.specs.declared.dates.Form.{Form}
use Rattle.liquid_jekyll_host_filters.specs.declared.dates.Form.TheVariants.{Plain, British}
use Rattle.liquid_jekyll_host_filters.specs.declared.dates.Form.TheVariants.{American}

-- whether there is a date: nil and the empty text are none, and anything else that is none is
-- refused
abbrev pub text_has_date : Text → Result Bool ErrorKind
text_has_date [] = Ok false
text_has_date (b ∷ s) = if is_some (read (b ∷ s)) then Ok true else Err InvalidInput

abbrev pub has_date : Datum → Result Bool ErrorKind
has_date nil = Ok false
has_date (text s) = text_has_date s
has_date d = Err InvalidInput

-- what is made of a date; where there is none, the input stays
abbrev pub of_date : (Datum → Answer) → Datum → Answer
of_date f d = has_date d >>= λ is_date. if is_date then f d else Ok d

-- what `date` answers by a pattern
abbrev pub date_by_pattern : Text → Datum → Answer
date_by_pattern pattern d = date_answer d (text pattern ∷ [])

abbrev pub printed_by : Text → Datum → Answer
printed_by pattern = of_date (date_by_pattern pattern)

abbrev pub date_to_xmlschema_answer : Datum → List Datum → Answer
date_to_xmlschema_answer d args = printed_by (codes "%Y-%m-%dT%H:%M:%S%:z") d

abbrev pub date_to_rfc822_answer : Datum → List Datum → Answer
date_to_rfc822_answer d args = printed_by (codes "%a, %d %b %Y %H:%M:%S %z") d

-- ---- with the month by its name
abbrev pub says : Datum → Text → Bool
says (text s) word = same_text s word
says d word = false

-- plain, unless the first argument is `ordinal`; and then by whether the second is `US`
abbrev pub form_of : Datum → Datum → Form
form_of kind style =
    if says kind (codes "ordinal") then (if says style (codes "US") then American else British)
    else Plain

abbrev pub form_given : List Datum → Form
form_given [] = Plain
form_given (kind ∷ []) = form_of kind nil
form_given (kind ∷ style ∷ args) = form_of kind style

-- what ends a day as an ordinal
abbrev pub day_ending : Datum → Text
day_ending day =
    if says day (codes "1") || says day (codes "21") || says day (codes "31") then codes "st"
    else (if says day (codes "2") || says day (codes "22") then codes "nd"
    else (if says day (codes "3") || says day (codes "23") then codes "rd" else codes "th"))

-- the pattern of a form, with the directive of the month and the ending of the day
abbrev pub form_pattern : Form → Text → Text → Text
form_pattern Plain month ending = codes "%d " ++ (month ++ codes " %Y")
form_pattern British month ending = codes "%-d" ++ (ending ++ (codes " " ++ (month ++ codes " %Y")))
form_pattern American month ending = month ++ (codes " %-d" ++ (ending ++ codes ", %Y"))

-- a date in a form: for an ordinal the day is printed first, to know its ending
abbrev pub ordinal : Text → Form → Datum → Answer
ordinal month form d = date_by_pattern (codes "%-d") d >>= λ day.
    date_by_pattern (form_pattern form month (day_ending day)) d

abbrev pub in_form : Text → Form → Datum → Answer
in_form month Plain d = date_by_pattern (form_pattern Plain month []) d
in_form month British d = ordinal month British d
in_form month American d = ordinal month American d

abbrev pub spelled_date : Text → Datum → List Datum → Answer
spelled_date month d args = of_date (in_form month (form_given args)) d

abbrev pub date_to_string_answer : Datum → List Datum → Answer
date_to_string_answer = spelled_date (codes "%b")

abbrev pub date_to_long_string_answer : Datum → List Datum → Answer
date_to_long_string_answer = spelled_date (codes "%B")
