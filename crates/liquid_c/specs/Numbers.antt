-- The numbers that calls answer, and what a caller reads from a handle.
use Rattle.std.specs.Prelude.{ℕ, Option, Some, None, [], string_bytes}
use Rattle.liquid_model.specs.Texts.{Text}
use Rattle.liquid_model.specs.ErrorKinds.{number_of}
use Rattle.liquid_model.specs.declared.error.Error.{Error}
use Rattle.liquid_engine.specs.declared.limits.LimitReached.{LimitReached}
use Rattle.liquid_engine.specs.declared.limits.LimitReached.TheVariants.{Bytes, Turns}
use Rattle.liquid_c.specs.declared.content.Content.{Content}
use Rattle.liquid_c.specs.declared.content.Content.TheVariants as content
use Rattle.liquid_c.specs.declared.refusal.Refusal.{Refusal}
use Rattle.liquid_c.specs.declared.refusal.Refusal.TheVariants.{NoText, OtherHandle, TooManyLevels}
use Rattle.liquid_c.specs.declared.refusal.Refusal.TheVariants.{SharedHandle, NoSuchCall}
use Rattle.liquid_c.specs.declared.refusal.Refusal.TheVariants.{NoSuchMissing, NoSuchStyle, NoWord}
use Rattle.liquid_c.specs.declared.refusal.Refusal.TheVariants.{NoSuchSet, NoValues, ReservedName}
use Rattle.liquid_c.specs.declared.refusal.Refusal.TheVariants.{OtherPaths, TakenName}

-- the fault, also that of a page
abbrev pub content_fault : Content → Option Error
content_fault (content.Page p) = p.fault
content_fault (content.Ended p limit) = p.fault
content_fault (content.Fault e) = Some e
content_fault _ = None

abbrev pub number_of_fault : Option Error → ℕ
number_of_fault None = 0
number_of_fault (Some e) = number_of e.kind

abbrev pub number_of_limit : LimitReached → ℕ
number_of_limit Bytes = 104
number_of_limit Turns = 105

-- 0, or the number of the limit that ended a page, of lacking answers, or of the fault's kind
abbrev pub number_of_content : Content → ℕ
number_of_content (content.Ended p limit) = number_of_limit limit
number_of_content (content.Lacking calls) = 106
number_of_content c = number_of_fault (content_fault c)

-- the text of a page, or of calls, names, paths or a key in JSON
abbrev pub text_of_handle : Content → Text
text_of_handle (content.Page p) = string_bytes p.text
text_of_handle (content.Ended p limit) = string_bytes p.text
text_of_handle (content.Lacking calls) = string_bytes calls.text
text_of_handle (content.Names names) = string_bytes names
text_of_handle (content.Paths uses paths) = string_bytes paths
text_of_handle (content.Key key) = string_bytes key
text_of_handle _ = []

-- a call that can't be: bytes that are no UTF-8, a handle of another kind, a run that could reach
-- too many levels, no call of the number, a change of what is shared, a number that says nothing of
-- missing values, a name of a tag that is no word, or that blocks or the language have a use of,
-- a number that stands for no style, given values that are none, a number that stands for no set,
-- and data that were read for paths of which a run asks more
abbrev pub number_of_refusal : Refusal → ℕ
number_of_refusal NoText = 101
number_of_refusal OtherHandle = 102
number_of_refusal TooManyLevels = 103
number_of_refusal NoSuchCall = 107
number_of_refusal SharedHandle = 108
number_of_refusal NoSuchMissing = 109
number_of_refusal NoWord = 110
number_of_refusal ReservedName = 111
number_of_refusal TakenName = 112
number_of_refusal NoSuchStyle = 113
number_of_refusal NoValues = 114
number_of_refusal NoSuchSet = 115
number_of_refusal OtherPaths = 116
