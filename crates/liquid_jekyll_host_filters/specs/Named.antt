-- Jekyll's filters by their names.
use Rattle.std.specs.Prelude.{◌≡◌, List, [], ◌∷◌, Option, Some, None, cond}
use Rattle.liquid_model.specs.Texts.{Text, same_text}
use Rattle.liquid_jekyll_host_filters.specs.SiteFilters.{filter_name}
use Rattle.liquid_jekyll_host_filters.specs.declared.site_filter.JekyllFilter.{JekyllFilter}
use Rattle.liquid_jekyll_host_filters.specs.declared.site_filter.JekyllFilter.TheVariants as each

abbrev pub filter_among : Text → List JekyllFilter → Option JekyllFilter
filter_among name [] = None
filter_among name (f ∷ fs) = cond (same_text (filter_name f) name) (Some f) (filter_among name fs)

-- each of them
abbrev pub each_filter : List JekyllFilter
each_filter = each.RelativeUrl ∷ each.AbsoluteUrl ∷ each.DateToString ∷ each.DateToLongString ∷
    each.DateToXmlschema ∷ each.DateToRfc822 ∷ each.XmlEscape ∷ each.CgiEscape ∷ each.UriEscape ∷
    each.Jsonify ∷ each.NormalizeWhitespace ∷ each.NumberOfWords ∷ each.ToInteger ∷
    each.ArrayToSentenceString ∷ each.GroupBy ∷ each.Where ∷ each.Find ∷ each.Highlight ∷
    each.Link ∷ each.PostUrl ∷ each.FeedMeta ∷ each.Seo ∷ []

-- the filter of a name, where there is one
abbrev pub filter_named : Text → Option JekyllFilter
filter_named name = filter_among name each_filter

-- each is found by its name
abbrev pub EachIsFound : Type 0
EachIsFound = (f : JekyllFilter) → filter_named (filter_name f) ≡ Some f
