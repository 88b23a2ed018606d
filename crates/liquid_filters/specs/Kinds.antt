-- The filters that exist: how many arguments each takes, what it answers and what Liquid calls it.
use Rattle.std.specs.Prelude.{ℕ, Bool, true, false, ◌&&◌, ◌||◌, List, nat_eq, nat_le, codes}
use Rattle.liquid_model.specs.Data.{Datum}
use Rattle.liquid_model.specs.Texts.{Text}
use Rattle.liquid_model.specs.Arguments.{Answer}
use Rattle.liquid_filters.specs.Dates.{date_answer, date_in_tz_answer}
use Rattle.liquid_filters.specs.JekyllEnds.{pop_answer, push_answer, shift_answer}
use Rattle.liquid_filters.specs.JekyllEnds.{unshift_answer}
use Rattle.liquid_filters.specs.Pluralize.{pluralize_answer}
use Rattle.liquid_filters.specs.Sentence.{array_to_sentence_string_answer}
use Rattle.liquid_filters.specs.Slugs.{slugify_answer}
use Rattle.liquid_filters.specs.JekyllSorting as jekyll
use Rattle.liquid_filters.specs.Ends.{first_answer, last_answer}
use Rattle.liquid_filters.specs.Joined.{join_answer}
use Rattle.liquid_filters.specs.Keeping.{compact_answer, map_answer, uniq_answer, where_answer}
use Rattle.liquid_filters.specs.Numbers.{abs, at_least, at_most, divided_by, minus, modulo}
use Rattle.liquid_filters.specs.Numbers.{of_none, of_one, plus, times}
use Rattle.liquid_filters.specs.Rounding.{round, rounded}
use Rattle.liquid_filters.specs.Rows.{concat_answer, reverse_answer}
use Rattle.liquid_filters.specs.Sorting.{sort_answer, sort_natural_answer}
use Rattle.liquid_filters.specs.Case.{capitalize_answer, downcase_answer, upcase_answer}
use Rattle.liquid_filters.specs.Default.{default_answer}
use Rattle.liquid_filters.specs.Operate.{append_answer, prepend_answer, remove_answer}
use Rattle.liquid_filters.specs.Operate.{remove_first_answer, replace_answer}
use Rattle.liquid_filters.specs.Operate.{replace_first_answer}
use Rattle.liquid_filters.specs.Size.{size_answer}
use Rattle.liquid_filters.specs.Slice.{slice_answer}
use Rattle.liquid_filters.specs.Split.{split_answer}
use Rattle.liquid_filters.specs.Strip.{lstrip_answer, rstrip_answer, strip_answer}
use Rattle.liquid_filters.specs.Strip.{strip_newlines_answer}
use Rattle.liquid_filters.specs.Truncate.{truncate_answer, truncatewords_answer}
use Rattle.liquid_filters.specs.Escapes.{escape_answer, escape_once_answer}
use Rattle.liquid_filters.specs.LineBreaks.{newline_to_br_answer}
use Rattle.liquid_filters.specs.Tags.{strip_html_answer}
use Rattle.liquid_filters.specs.Urls.{url_decode_answer, url_encode_answer}
use Rattle.liquid_filters.specs.declared.stdlib.filters.math.decimal.Rounding.TheVariants.{Up}
use Rattle.liquid_filters.specs.declared.stdlib.filters.math.decimal.Rounding.TheVariants.{Down}
use Rattle.liquid_filters.specs.declared.kind.FilterKind.{FilterKind}
use Rattle.liquid_filters.specs.declared.kind.FilterKind.TheVariants.{Join, Sort, SortNatural}
use Rattle.liquid_filters.specs.declared.kind.FilterKind.TheVariants.{Where, Uniq, Reverse, Map}
use Rattle.liquid_filters.specs.declared.kind.FilterKind.TheVariants.{Compact, Concat, First, Last}
use Rattle.liquid_filters.specs.declared.kind.FilterKind.TheVariants.{Abs, AtLeast, AtMost, Plus}
use Rattle.liquid_filters.specs.declared.kind.FilterKind.TheVariants.{Minus, Times, DividedBy}
use Rattle.liquid_filters.specs.declared.kind.FilterKind.TheVariants.{Modulo, Round, Ceil, Floor}
use Rattle.liquid_filters.specs.declared.kind.FilterKind.TheVariants.{Size, Default, Slice, Split}
use Rattle.liquid_filters.specs.declared.kind.FilterKind.TheVariants.{Replace, ReplaceFirst, Remove}
use Rattle.liquid_filters.specs.declared.kind.FilterKind.TheVariants.{RemoveFirst, Append, Prepend}
use Rattle.liquid_filters.specs.declared.kind.FilterKind.TheVariants.{Strip, Lstrip, Rstrip}
use Rattle.liquid_filters.specs.declared.kind.FilterKind.TheVariants.{StripNewlines, Downcase}
use Rattle.liquid_filters.specs.declared.kind.FilterKind.TheVariants.{Upcase, Capitalize, Truncate}
use Rattle.liquid_filters.specs.declared.kind.FilterKind.TheVariants.{TruncateWords, Escape}
use Rattle.liquid_filters.specs.declared.kind.FilterKind.TheVariants.{EscapeOnce, StripHtml}
use Rattle.liquid_filters.specs.declared.kind.FilterKind.TheVariants.{NewlineToBr, UrlEncode}
use Rattle.liquid_filters.specs.declared.kind.FilterKind.TheVariants.{UrlDecode, Date, JekyllSort}
use Rattle.liquid_filters.specs.declared.kind.FilterKind.TheVariants.{Push, Unshift, Pop, Shift}
use Rattle.liquid_filters.specs.declared.kind.FilterKind.TheVariants.{ArrayToSentenceString}
use Rattle.liquid_filters.specs.declared.kind.FilterKind.TheVariants.{Slugify, Pluralize, DateInTz}

abbrev pub kind_counts : FilterKind → ℕ → Bool
kind_counts Join n = nat_le n 1
kind_counts Sort n = nat_le n 1
kind_counts SortNatural n = nat_le n 1
kind_counts Where n = nat_le 1 n && nat_le n 2
kind_counts Uniq n = nat_eq n 0
kind_counts Reverse n = nat_eq n 0
kind_counts Map n = nat_eq n 1
kind_counts Compact n = nat_le n 1
kind_counts Concat n = nat_eq n 1
kind_counts First n = nat_eq n 0
kind_counts Last n = nat_eq n 0
kind_counts Abs n = nat_eq n 0
kind_counts AtLeast n = nat_eq n 1
kind_counts AtMost n = nat_eq n 1
kind_counts Plus n = nat_eq n 1
kind_counts Minus n = nat_eq n 1
kind_counts Times n = nat_eq n 1
kind_counts DividedBy n = nat_eq n 1
kind_counts Modulo n = nat_eq n 1
kind_counts Round n = nat_eq n 0 || nat_eq n 1
kind_counts Ceil n = nat_eq n 0
kind_counts Floor n = nat_eq n 0
kind_counts Size n = nat_eq n 0
kind_counts Default n = nat_eq n 1
kind_counts Slice n = nat_le 1 n && nat_le n 2
kind_counts Split n = nat_eq n 1
kind_counts Replace n = nat_le 1 n && nat_le n 2
kind_counts ReplaceFirst n = nat_le 1 n && nat_le n 2
kind_counts Remove n = nat_eq n 1
kind_counts RemoveFirst n = nat_eq n 1
kind_counts Append n = nat_eq n 1
kind_counts Prepend n = nat_eq n 1
kind_counts Strip n = nat_eq n 0
kind_counts Lstrip n = nat_eq n 0
kind_counts Rstrip n = nat_eq n 0
kind_counts StripNewlines n = nat_eq n 0
kind_counts Downcase n = nat_eq n 0
kind_counts Upcase n = nat_eq n 0
kind_counts Capitalize n = nat_eq n 0
kind_counts Truncate n = nat_le n 2
kind_counts TruncateWords n = nat_le n 2
kind_counts Escape n = nat_eq n 0
kind_counts EscapeOnce n = nat_eq n 0
kind_counts StripHtml n = nat_eq n 0
kind_counts NewlineToBr n = nat_eq n 0
kind_counts UrlEncode n = nat_eq n 0
kind_counts UrlDecode n = nat_eq n 0
kind_counts Date n = nat_eq n 1
kind_counts JekyllSort n = nat_le n 2
kind_counts Push n = nat_eq n 1
kind_counts Unshift n = nat_eq n 1
kind_counts Pop n = nat_eq n 0
kind_counts Shift n = nat_eq n 0
kind_counts ArrayToSentenceString n = nat_le n 1
kind_counts Slugify n = nat_le n 1
kind_counts Pluralize n = nat_eq n 2
kind_counts DateInTz n = nat_eq n 2

-- these are functions to be computed; what a filter does is said by its relation, in the laws of
-- its crate, of which it is proved that it holds of this answer and of no other
abbrev pub kind_answer : FilterKind → Datum → List Datum → Answer
kind_answer Join = join_answer
kind_answer Sort = sort_answer
kind_answer SortNatural = sort_natural_answer
kind_answer Where = where_answer
kind_answer Uniq = uniq_answer
kind_answer Reverse = reverse_answer
kind_answer Map = map_answer
kind_answer Compact = compact_answer
kind_answer Concat = concat_answer
kind_answer First = first_answer
kind_answer Last = last_answer
kind_answer Abs = of_none abs
kind_answer AtLeast = of_one at_least
kind_answer AtMost = of_one at_most
kind_answer Plus = of_one plus
kind_answer Minus = of_one minus
kind_answer Times = of_one times
kind_answer DividedBy = of_one divided_by
kind_answer Modulo = of_one modulo
kind_answer Round = round
kind_answer Ceil = of_none (rounded Up)
kind_answer Floor = of_none (rounded Down)
kind_answer Size = size_answer
kind_answer Default = default_answer
kind_answer Slice = slice_answer
kind_answer Split = split_answer
kind_answer Replace = replace_answer
kind_answer ReplaceFirst = replace_first_answer
kind_answer Remove = remove_answer
kind_answer RemoveFirst = remove_first_answer
kind_answer Append = append_answer
kind_answer Prepend = prepend_answer
kind_answer Strip = strip_answer
kind_answer Lstrip = lstrip_answer
kind_answer Rstrip = rstrip_answer
kind_answer StripNewlines = strip_newlines_answer
kind_answer Downcase = downcase_answer
kind_answer Upcase = upcase_answer
kind_answer Capitalize = capitalize_answer
kind_answer Truncate = truncate_answer
kind_answer TruncateWords = truncatewords_answer
kind_answer Escape = escape_answer
kind_answer EscapeOnce = escape_once_answer
kind_answer StripHtml = strip_html_answer
kind_answer NewlineToBr = newline_to_br_answer
kind_answer UrlEncode = url_encode_answer
kind_answer UrlDecode = url_decode_answer
kind_answer Date = date_answer
kind_answer JekyllSort = jekyll.jekyll_sort_answer
kind_answer Push = push_answer
kind_answer Unshift = unshift_answer
kind_answer Pop = pop_answer
kind_answer Shift = shift_answer
kind_answer ArrayToSentenceString = array_to_sentence_string_answer
kind_answer Slugify = slugify_answer
kind_answer Pluralize = pluralize_answer
kind_answer DateInTz = date_in_tz_answer

-- the filters whose answers are numbers, or faults
abbrev pub answers_numbers : FilterKind → Bool
answers_numbers Abs = true
answers_numbers AtLeast = true
answers_numbers AtMost = true
answers_numbers Plus = true
answers_numbers Minus = true
answers_numbers Times = true
answers_numbers DividedBy = true
answers_numbers Modulo = true
answers_numbers Round = true
answers_numbers Ceil = true
answers_numbers Floor = true
answers_numbers Size = true
answers_numbers _ = false

abbrev pub kind_name : FilterKind → Text
kind_name Join = codes "join"
kind_name Sort = codes "sort"
kind_name SortNatural = codes "sort_natural"
kind_name Where = codes "where"
kind_name Uniq = codes "uniq"
kind_name Reverse = codes "reverse"
kind_name Map = codes "map"
kind_name Compact = codes "compact"
kind_name Concat = codes "concat"
kind_name First = codes "first"
kind_name Last = codes "last"
kind_name Abs = codes "abs"
kind_name AtLeast = codes "at_least"
kind_name AtMost = codes "at_most"
kind_name Plus = codes "plus"
kind_name Minus = codes "minus"
kind_name Times = codes "times"
kind_name DividedBy = codes "divided_by"
kind_name Modulo = codes "modulo"
kind_name Round = codes "round"
kind_name Ceil = codes "ceil"
kind_name Floor = codes "floor"
kind_name Size = codes "size"
kind_name Default = codes "default"
kind_name Slice = codes "slice"
kind_name Split = codes "split"
kind_name Replace = codes "replace"
kind_name ReplaceFirst = codes "replace_first"
kind_name Remove = codes "remove"
kind_name RemoveFirst = codes "remove_first"
kind_name Append = codes "append"
kind_name Prepend = codes "prepend"
kind_name Strip = codes "strip"
kind_name Lstrip = codes "lstrip"
kind_name Rstrip = codes "rstrip"
kind_name StripNewlines = codes "strip_newlines"
kind_name Downcase = codes "downcase"
kind_name Upcase = codes "upcase"
kind_name Capitalize = codes "capitalize"
kind_name Truncate = codes "truncate"
kind_name TruncateWords = codes "truncatewords"
kind_name Escape = codes "escape"
kind_name EscapeOnce = codes "escape_once"
kind_name StripHtml = codes "strip_html"
kind_name NewlineToBr = codes "newline_to_br"
kind_name UrlEncode = codes "url_encode"
kind_name UrlDecode = codes "url_decode"
kind_name Date = codes "date"
kind_name JekyllSort = codes "sort"
kind_name Push = codes "push"
kind_name Unshift = codes "unshift"
kind_name Pop = codes "pop"
kind_name Shift = codes "shift"
kind_name ArrayToSentenceString = codes "array_to_sentence_string"
kind_name Slugify = codes "slugify"
kind_name Pluralize = codes "pluralize"
kind_name DateInTz = codes "date_in_tz"
