-- Jekyll's filters: the name of each, how many arguments it takes, and what it answers over a site
-- of an address and a base path.
use Rattle.std.specs.Prelude.{ℕ, Bool, List, codes, nat_eq, nat_le, ◌||◌}
use Rattle.liquid_model.specs.Data.{Datum}
use Rattle.liquid_model.specs.Texts.{Text}
use Rattle.liquid_model.specs.Arguments.{Answer}
use Rattle.liquid_jekyll_host_filters.specs.Dates.{date_to_long_string_answer}
use Rattle.liquid_jekyll_host_filters.specs.Dates.{date_to_rfc822_answer, date_to_string_answer}
use Rattle.liquid_jekyll_host_filters.specs.Dates.{date_to_xmlschema_answer}
use Rattle.liquid_jekyll_host_filters.specs.Escapes.{xml_escape_answer}
use Rattle.liquid_jekyll_host_filters.specs.FeedMeta.{feed_meta_answer}
use Rattle.liquid_jekyll_host_filters.specs.Groups.{group_by_answer}
use Rattle.liquid_jekyll_host_filters.specs.Highlight.{jekyll_highlight_answer}
use Rattle.liquid_jekyll_host_filters.specs.Json.{jsonify_answer}
use Rattle.liquid_jekyll_host_filters.specs.Links.{link_answer, post_url_answer}
use Rattle.liquid_jekyll_host_filters.specs.Numbers.{to_integer_answer}
use Rattle.liquid_jekyll_host_filters.specs.Searches.{find_answer, jekyll_where_answer}
use Rattle.liquid_jekyll_host_filters.specs.Sentence.{jekyll_sentence_answer}
use Rattle.liquid_jekyll_host_filters.specs.Seo.{seo_answer}
use Rattle.liquid_jekyll_host_filters.specs.Urls.{absolute_url_answer, cgi_escape_answer}
use Rattle.liquid_jekyll_host_filters.specs.Urls.{relative_url_answer, uri_escape_answer}
use Rattle.liquid_jekyll_host_filters.specs.Words.{normalize_whitespace_answer}
use Rattle.liquid_jekyll_host_filters.specs.Words.{number_of_words_answer}
use Rattle.liquid_jekyll_host_filters.specs.declared.site_filter.JekyllFilter.{JekyllFilter}
use Rattle.liquid_jekyll_host_filters.specs.declared.site_filter.JekyllFilter.TheVariants.{RelativeUrl}
use Rattle.liquid_jekyll_host_filters.specs.declared.site_filter.JekyllFilter.TheVariants.{AbsoluteUrl}
use Rattle.liquid_jekyll_host_filters.specs.declared.site_filter.JekyllFilter.TheVariants.{DateToString}
use Rattle.liquid_jekyll_host_filters.specs.declared.site_filter.JekyllFilter.TheVariants.{DateToLongString}
use Rattle.liquid_jekyll_host_filters.specs.declared.site_filter.JekyllFilter.TheVariants.{DateToXmlschema}
use Rattle.liquid_jekyll_host_filters.specs.declared.site_filter.JekyllFilter.TheVariants.{DateToRfc822}
use Rattle.liquid_jekyll_host_filters.specs.declared.site_filter.JekyllFilter.TheVariants.{XmlEscape}
use Rattle.liquid_jekyll_host_filters.specs.declared.site_filter.JekyllFilter.TheVariants.{CgiEscape}
use Rattle.liquid_jekyll_host_filters.specs.declared.site_filter.JekyllFilter.TheVariants.{UriEscape}
use Rattle.liquid_jekyll_host_filters.specs.declared.site_filter.JekyllFilter.TheVariants.{Jsonify}
use Rattle.liquid_jekyll_host_filters.specs.declared.site_filter.JekyllFilter.TheVariants.{NormalizeWhitespace}
use Rattle.liquid_jekyll_host_filters.specs.declared.site_filter.JekyllFilter.TheVariants.{NumberOfWords}
use Rattle.liquid_jekyll_host_filters.specs.declared.site_filter.JekyllFilter.TheVariants.{ToInteger}
use Rattle.liquid_jekyll_host_filters.specs.declared.site_filter.JekyllFilter.TheVariants.{ArrayToSentenceString}
use Rattle.liquid_jekyll_host_filters.specs.declared.site_filter.JekyllFilter.TheVariants.{GroupBy}
use Rattle.liquid_jekyll_host_filters.specs.declared.site_filter.JekyllFilter.TheVariants.{Where}
use Rattle.liquid_jekyll_host_filters.specs.declared.site_filter.JekyllFilter.TheVariants.{Find}
use Rattle.liquid_jekyll_host_filters.specs.declared.site_filter.JekyllFilter as jekyll

abbrev pub filter_name : JekyllFilter → List ℕ
filter_name RelativeUrl = codes "relative_url"
filter_name AbsoluteUrl = codes "absolute_url"
filter_name DateToString = codes "date_to_string"
filter_name DateToLongString = codes "date_to_long_string"
filter_name DateToXmlschema = codes "date_to_xmlschema"
filter_name DateToRfc822 = codes "date_to_rfc822"
filter_name XmlEscape = codes "xml_escape"
filter_name CgiEscape = codes "cgi_escape"
filter_name UriEscape = codes "uri_escape"
filter_name Jsonify = codes "jsonify"
filter_name NormalizeWhitespace = codes "normalize_whitespace"
filter_name NumberOfWords = codes "number_of_words"
filter_name ToInteger = codes "to_integer"
filter_name ArrayToSentenceString = codes "array_to_sentence_string"
filter_name GroupBy = codes "group_by"
filter_name Where = codes "where"
filter_name Find = codes "find"
filter_name jekyll.TheVariants.Highlight = codes "highlight"
filter_name jekyll.TheVariants.Link = codes "link"
filter_name jekyll.TheVariants.PostUrl = codes "post_url"
filter_name jekyll.TheVariants.FeedMeta = codes "feed_meta"
filter_name jekyll.TheVariants.Seo = codes "seo"

-- the least and the greatest number of arguments; each number between is taken
abbrev pub filter_least : JekyllFilter → ℕ
filter_least GroupBy = 1
filter_least Where = 2
filter_least Find = 2
filter_least jekyll.TheVariants.Highlight = 1
filter_least jekyll.TheVariants.Link = 4
filter_least jekyll.TheVariants.PostUrl = 2
filter_least jekyll.TheVariants.FeedMeta = 3
filter_least jekyll.TheVariants.Seo = 1
filter_least f = 0

abbrev pub filter_most : JekyllFilter → ℕ
filter_most DateToString = 2
filter_most DateToLongString = 2
filter_most ArrayToSentenceString = 1
filter_most GroupBy = 1
filter_most Where = 2
filter_most Find = 2
filter_most jekyll.TheVariants.Highlight = 1
filter_most jekyll.TheVariants.Link = 4
filter_most jekyll.TheVariants.PostUrl = 2
filter_most jekyll.TheVariants.FeedMeta = 3
filter_most jekyll.TheVariants.Seo = 2
filter_most f = 0

abbrev pub filter_counts : JekyllFilter → ℕ → Bool
filter_counts DateToString n = nat_le n 2
filter_counts DateToLongString n = nat_le n 2
filter_counts ArrayToSentenceString n = nat_le n 1
filter_counts GroupBy n = nat_eq n 1
filter_counts Where n = nat_eq n 2
filter_counts Find n = nat_eq n 2
filter_counts jekyll.TheVariants.Highlight n = nat_eq n 1
filter_counts jekyll.TheVariants.Link n = nat_eq n 4
filter_counts jekyll.TheVariants.PostUrl n = nat_eq n 2
filter_counts jekyll.TheVariants.FeedMeta n = nat_eq n 3
filter_counts jekyll.TheVariants.Seo n = nat_eq n 1 || nat_eq n 2
filter_counts f n = nat_eq n 0

abbrev pub filter_answer : JekyllFilter → Text → Text → Datum → List Datum → Answer
filter_answer RelativeUrl address base = relative_url_answer base
filter_answer AbsoluteUrl address base = absolute_url_answer address base
filter_answer DateToString address base = date_to_string_answer
filter_answer DateToLongString address base = date_to_long_string_answer
filter_answer DateToXmlschema address base = date_to_xmlschema_answer
filter_answer DateToRfc822 address base = date_to_rfc822_answer
filter_answer XmlEscape address base = xml_escape_answer
filter_answer CgiEscape address base = cgi_escape_answer
filter_answer UriEscape address base = uri_escape_answer
filter_answer Jsonify address base = jsonify_answer
filter_answer NormalizeWhitespace address base = normalize_whitespace_answer
filter_answer NumberOfWords address base = number_of_words_answer
filter_answer ToInteger address base = to_integer_answer
filter_answer ArrayToSentenceString address base = jekyll_sentence_answer
filter_answer GroupBy address base = group_by_answer
filter_answer Where address base = jekyll_where_answer
filter_answer Find address base = find_answer
filter_answer jekyll.TheVariants.Highlight address base = jekyll_highlight_answer
filter_answer jekyll.TheVariants.Link address base = link_answer base
filter_answer jekyll.TheVariants.PostUrl address base = post_url_answer base
filter_answer jekyll.TheVariants.FeedMeta address base = feed_meta_answer address base
filter_answer jekyll.TheVariants.Seo address base = seo_answer
