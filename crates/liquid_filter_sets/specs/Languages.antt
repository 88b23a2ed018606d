-- The languages of the sets: which tag, block and filter stands under which name.
use Rattle.std.specs.Prelude.{◌≡◌, List, [], ◌∷◌, codes, false, true}
use Rattle.liquid_model.specs.Maps.{Map, insert, listed}
use Rattle.liquid_model.specs.Data.{nil, text}
use Rattle.liquid_model.specs.Texts.{Text}
use Rattle.liquid_core.specs.Environment.{bind_each}
use Rattle.liquid_core.specs.Expression.{Expression, literal, no_steps, step, variable}
use Rattle.liquid_filters.specs.declared.kind.FilterKind.TheVariants.{JekyllSort}
use Rattle.liquid_language.specs.HostTags.{BlockCall, TagCall, blocks_of, calls_of, end_names}
use Rattle.liquid_language.specs.HostTags.{numbers_of}
use Rattle.liquid_language.specs.Languages.{kinds_of}
use Rattle.liquid_language.specs.Registered.{registered_in}
use Rattle.liquid_lexer.specs.declared.style.Style.TheVariants as styles
use Rattle.liquid_language.specs.declared.host_tags.HostKind.{HostKind}
use Rattle.liquid_language.specs.declared.host_tags.HostKind.TheVariants as kinds
use Rattle.liquid_language.specs.declared.registry.Language.{Language}
use Rattle.liquid_language.specs.declared.registry.TagKind.{TagKind}
use Rattle.liquid_language.specs.declared.registry.TagKind.TheVariants.{JekyllInclude}
use Rattle.liquid_language.specs.declared.registered_filter.RegisteredFilter.{RegisteredFilter}
use Rattle.liquid_language.specs.declared.registered_filter.RegisteredFilter.TheVariants.{Host}
use Rattle.liquid_language.specs.declared.registered_filter.RegisteredFilter.TheVariants.{Kind}
use Rattle.liquid_language.specs.Standard.{standard_blocks, standard_filters, standard_tags}
use Rattle.liquid_language.specs.Standard.{with_filters}
use Rattle.liquid_decimals.specs.Kinds.{decimal_filter_name, least_decimal_arguments}
use Rattle.liquid_decimals.specs.Kinds.{most_decimal_arguments}
use Rattle.liquid_decimals.specs.declared.filter.DecimalFilter.{DecimalFilter}
use Rattle.liquid_decimals.specs.declared.filter.DecimalFilter.TheVariants as d
use Rattle.liquid_jekyll_host_filters.specs.SiteFilters.{filter_least, filter_most, filter_name}
use Rattle.liquid_jekyll_host_filters.specs.declared.site_filter.JekyllFilter.{JekyllFilter}
use Rattle.liquid_jekyll_host_filters.specs.declared.site_filter.JekyllFilter.TheVariants as j
use Rattle.liquid_filter_sets.specs.Conversions.{converter_name, converters}
use Rattle.liquid_filter_sets.specs.ShopifyTags.{HasShopifyTags}
use Rattle.liquid_filter_sets.specs.declared.conversion.Converter.{Converter}
use Rattle.liquid_shopify_host_filters.specs.Kinds as shopify
use Rattle.liquid_shopify_host_filters.specs.declared.kind.ShopifyKind.{ShopifyKind}
use Rattle.liquid_shopify_host_filters.specs.declared.kind.ShopifyKind.TheVariants as s

-- ---- Jekyll's

-- each filter of a host at its own name, the later of one name winning
abbrev pub with_sites : Map RegisteredFilter → List JekyllFilter → Map RegisteredFilter
with_sites m [] = m
with_sites m (f ∷ fs) =
    with_sites (insert m (filter_name f) (Host (filter_least f) (filter_most f))) fs

abbrev pub jekyll_filters : List JekyllFilter
jekyll_filters =
    j.RelativeUrl ∷ j.AbsoluteUrl ∷ j.DateToString ∷ j.DateToLongString ∷ j.DateToXmlschema ∷
    j.DateToRfc822 ∷ j.XmlEscape ∷ j.CgiEscape ∷ j.UriEscape ∷ j.Jsonify ∷ j.NormalizeWhitespace ∷
    j.NumberOfWords ∷ j.ToInteger ∷ j.ArrayToSentenceString ∷ j.GroupBy ∷ j.Where ∷ j.Find ∷
    j.Highlight ∷ j.Link ∷ j.PostUrl ∷ j.FeedMeta ∷ j.Seo ∷ []

-- each filter that a converter answers
abbrev pub with_converters : Map RegisteredFilter → List Converter → Map RegisteredFilter
with_converters m [] = m
with_converters m (c ∷ cs) = with_converters (insert m (converter_name c) (Host 0 0)) cs

abbrev pub with_jekyll_filters : Map RegisteredFilter → Map RegisteredFilter
with_jekyll_filters m = insert (with_converters (with_sites m jekyll_filters) converters)
    (codes "where_exp") (Host 2 2)

-- two tags of one kind
abbrev pub with_includes : Map TagKind → Map TagKind
with_includes m = insert (insert m (codes "include") JekyllInclude) (codes "include_relative")
    JekyllInclude

abbrev pub jekyll_tags : Map TagKind
jekyll_tags = with_includes (bind_each standard_tags (listed []))

-- `site.w`
abbrev pub of_site : Text → Expression
of_site w = variable (codes "site") (step (literal (text w)) no_steps)

-- a tag that calls the filter of its name with its markup, as one text, and with these parts of the
-- data; its input is nil
abbrev pub site_call : Text → List Expression → TagCall
site_call w parts = record {
  filter = w;
  input = literal nil;
  style = styles.Text;
  given = parts;
}

-- where `link` looks for a page, one after another
abbrev pub site_lists : List Expression
site_lists = of_site (codes "pages") ∷ of_site (codes "static_files") ∷
    of_site (codes "documents") ∷ []

-- what `feed_meta` says of the feed
abbrev pub feed_parts : List Expression
feed_parts = of_site (codes "feed") ∷ of_site (codes "title") ∷ of_site (codes "name") ∷ []

-- what `seo` writes
abbrev pub seo_text : Expression
seo_text = variable (codes "seo_tag") no_steps

abbrev pub jekyll_calls : List TagCall
jekyll_calls =
    site_call (codes "link") site_lists ∷
    site_call (codes "post_url") (of_site (codes "posts") ∷ []) ∷
    site_call (codes "feed_meta") feed_parts ∷
    site_call (codes "seo") (seo_text ∷ []) ∷ []

-- with the names of these tags
abbrev pub with_jekyll_tags : Map HostKind → Map HostKind
with_jekyll_tags m = insert (insert (insert (insert m (codes "link") (kinds.Tag 0))
    (codes "post_url") (kinds.Tag 1)) (codes "feed_meta") (kinds.Tag 2)) (codes "seo") (kinds.Tag 3)

-- the filter is called with the markup, as one text, on the body's text
abbrev pub highlight_call : BlockCall
highlight_call = record { filter = codes "highlight"; style = styles.Text; given = [] }

-- the names of the host are those of four tags and of a block
pub record HasJekyllTags (l : Language) : Type 0 where
  pub names : listed (numbers_of l.host_tags) ≡
      insert (with_jekyll_tags (listed [])) (codes "highlight") (kinds.Block 0)
  pub calls : calls_of l.host_tags ≡ jekyll_calls
  pub blocks : blocks_of l.host_tags ≡ highlight_call ∷ []
  pub ends : end_names l.host_tags ≡ codes "endhighlight" ∷ []

-- the standard language with Jekyll's `include` and `include_relative`, which take a path, `sort`,
-- the tags `link`, `post_url`, `feed_meta` and `seo` and the block `highlight`, and the names of
-- Jekyll's filters of a host, without the white space of blocks that write nothing
pub record IsJekyll (l : Language) : Type 0 where
  pub tags : listed (kinds_of l.tags) ≡ jekyll_tags
  pub blocks : listed (kinds_of l.blocks) ≡ bind_each standard_blocks (listed [])
  pub filters : listed (registered_in l.filters) ≡ with_jekyll_filters
      (insert (with_filters (listed []) standard_filters) (codes "sort")
      (Kind JekyllSort))
  pub include_paths : l.include_paths ≡ true
  pub drops_blanks : l.drops_blanks ≡ true
  pub escapes_html : l.escapes_html ≡ false
  pub host_tags : HasJekyllTags l

-- ---- Shopify's

abbrev pub with_kinds : Map RegisteredFilter → List ShopifyKind → Map RegisteredFilter
with_kinds m [] = m
with_kinds m (k ∷ ks) = with_kinds (insert m (shopify.shopify_filter_name k)
    (Host (shopify.least_of k) (shopify.most_arguments k))) ks

abbrev pub shopify_filters : List ShopifyKind
shopify_filters =
    s.AssetUrl ∷ s.Base64Decode ∷ s.Base64Encode ∷ s.Camelize ∷ s.DefaultPagination ∷ s.Find ∷
    s.FindIndex ∷ s.Form ∷ s.GlobalAssetUrl ∷ s.Handle ∷ s.Handleize ∷ s.Has ∷
    s.HighlightActiveTag ∷ s.HmacSha256 ∷ s.ImgTag ∷ s.Json ∷ s.Layout ∷ s.LinkTo ∷
    s.LinkToAddTag ∷ s.LinkToRemoveTag ∷ s.LinkToTag ∷ s.LinkToType ∷ s.LinkToVendor ∷ s.Md5 ∷
    s.Money ∷ s.MoneyWithCurrency ∷ s.MoneyWithoutCurrency ∷ s.MoneyWithoutTrailingZeros ∷
    s.NoText ∷ s.Paginate ∷ s.ProductImgUrl ∷ s.Reject ∷ s.RemoveLast ∷ s.ReplaceLast ∷
    s.ScriptTag ∷ s.Section ∷ s.Sha1 ∷ s.Sha256 ∷ s.ShopifyAssetUrl ∷ s.Squish ∷ s.Style ∷
    s.StylesheetTag ∷ s.Sum ∷ s.UrlForType ∷ s.UrlForVendor ∷ s.WeightWithUnit ∷ s.Within ∷ []

abbrev pub with_shopify_filters : Map RegisteredFilter → Map RegisteredFilter
with_shopify_filters m = with_kinds m shopify_filters

-- the standard language with the names of Shopify's filters of a host, without the white space of
-- blocks that write nothing, with Shopify's tags and blocks
pub record IsShopify (l : Language) : Type 0 where
  pub tags : listed (kinds_of l.tags) ≡ bind_each standard_tags (listed [])
  pub blocks : listed (kinds_of l.blocks) ≡ bind_each standard_blocks (listed [])
  pub filters : listed (registered_in l.filters) ≡
      with_shopify_filters (with_filters (listed []) standard_filters)
  pub drops_blanks : l.drops_blanks ≡ true
  pub escapes_html : l.escapes_html ≡ false
  pub host_tags : HasShopifyTags l

-- ---- decimals

abbrev pub with_each_decimal : Map RegisteredFilter → List DecimalFilter → Map RegisteredFilter
with_each_decimal m [] = m
with_each_decimal m (f ∷ fs) = with_each_decimal (insert m (decimal_filter_name f)
    (Host (least_decimal_arguments f) (most_decimal_arguments f))) fs

abbrev pub decimal_filters : List DecimalFilter
decimal_filters =
    d.AtLeast ∷ d.AtMost ∷ d.Compare ∷ d.DividedBy ∷ d.Format ∷ d.Minus ∷ d.Plus ∷ d.Round ∷
    d.Sum ∷ d.Times ∷ []

abbrev pub with_decimal_filters : Map RegisteredFilter → Map RegisteredFilter
with_decimal_filters m = with_each_decimal m decimal_filters

-- the standard language with the names of the filters over decimals, and no tags of a host
pub record HasDecimals (l : Language) : Type 0 where
  pub tags : listed (kinds_of l.tags) ≡ bind_each standard_tags (listed [])
  pub blocks : listed (kinds_of l.blocks) ≡ bind_each standard_blocks (listed [])
  pub filters : listed (registered_in l.filters) ≡
      with_decimal_filters (with_filters (listed []) standard_filters)
  pub drops_blanks : l.drops_blanks ≡ false
  pub escapes_html : l.escapes_html ≡ false
  pub host_tags : numbers_of l.host_tags ≡ []
