-- Which filters there are: their names, and how many arguments each takes.
use Rattle.std.specs.Prelude.{ℕ, Bool, ◌&&◌, nat_le, List, codes}
use Rattle.liquid_model.specs.Texts.{Text}
use Rattle.liquid_shopify_host_filters.specs.declared.kind.ShopifyKind.{ShopifyKind}
use Rattle.liquid_shopify_host_filters.specs.declared.kind.ShopifyKind.TheVariants.{AssetUrl}
use Rattle.liquid_shopify_host_filters.specs.declared.kind.ShopifyKind.TheVariants.{Base64Decode}
use Rattle.liquid_shopify_host_filters.specs.declared.kind.ShopifyKind.TheVariants.{Base64Encode}
use Rattle.liquid_shopify_host_filters.specs.declared.kind.ShopifyKind.TheVariants.{Camelize}
use Rattle.liquid_shopify_host_filters.specs.declared.kind.ShopifyKind.TheVariants as kinds
use Rattle.liquid_shopify_host_filters.specs.declared.kind.ShopifyKind.TheVariants.{Find, FindIndex}
use Rattle.liquid_shopify_host_filters.specs.declared.kind.ShopifyKind.TheVariants.{Form}
use Rattle.liquid_shopify_host_filters.specs.declared.kind.ShopifyKind.TheVariants.{GlobalAssetUrl}
use Rattle.liquid_shopify_host_filters.specs.declared.kind.ShopifyKind.TheVariants.{Handle}
use Rattle.liquid_shopify_host_filters.specs.declared.kind.ShopifyKind.TheVariants.{Handleize, Has}
use Rattle.liquid_shopify_host_filters.specs.declared.kind.ShopifyKind.TheVariants.{HighlightActiveTag}
use Rattle.liquid_shopify_host_filters.specs.declared.kind.ShopifyKind.TheVariants.{HmacSha256}
use Rattle.liquid_shopify_host_filters.specs.declared.kind.ShopifyKind.TheVariants.{ImgTag, Json}
use Rattle.liquid_shopify_host_filters.specs.declared.kind.ShopifyKind.TheVariants.{Layout, LinkTo}
use Rattle.liquid_shopify_host_filters.specs.declared.kind.ShopifyKind.TheVariants.{LinkToAddTag}
use Rattle.liquid_shopify_host_filters.specs.declared.kind.ShopifyKind.TheVariants.{LinkToRemoveTag}
use Rattle.liquid_shopify_host_filters.specs.declared.kind.ShopifyKind.TheVariants.{LinkToTag}
use Rattle.liquid_shopify_host_filters.specs.declared.kind.ShopifyKind.TheVariants.{LinkToType}
use Rattle.liquid_shopify_host_filters.specs.declared.kind.ShopifyKind.TheVariants.{LinkToVendor}
use Rattle.liquid_shopify_host_filters.specs.declared.kind.ShopifyKind.TheVariants.{Md5, Money}
use Rattle.liquid_shopify_host_filters.specs.declared.kind.ShopifyKind.TheVariants.{MoneyWithCurrency}
use Rattle.liquid_shopify_host_filters.specs.declared.kind.ShopifyKind.TheVariants.{MoneyWithoutCurrency}
use Rattle.liquid_shopify_host_filters.specs.declared.kind.ShopifyKind.TheVariants.{MoneyWithoutTrailingZeros}
use Rattle.liquid_shopify_host_filters.specs.declared.kind.ShopifyKind.TheVariants.{NoText}
use Rattle.liquid_shopify_host_filters.specs.declared.kind.ShopifyKind.TheVariants.{Paginate}
use Rattle.liquid_shopify_host_filters.specs.declared.kind.ShopifyKind.TheVariants.{ProductImgUrl}
use Rattle.liquid_shopify_host_filters.specs.declared.kind.ShopifyKind.TheVariants.{Reject}
use Rattle.liquid_shopify_host_filters.specs.declared.kind.ShopifyKind.TheVariants.{RemoveLast}
use Rattle.liquid_shopify_host_filters.specs.declared.kind.ShopifyKind.TheVariants.{ReplaceLast}
use Rattle.liquid_shopify_host_filters.specs.declared.kind.ShopifyKind.TheVariants.{ScriptTag}
use Rattle.liquid_shopify_host_filters.specs.declared.kind.ShopifyKind.TheVariants.{Section, Sha1}
use Rattle.liquid_shopify_host_filters.specs.declared.kind.ShopifyKind.TheVariants.{Sha256}
use Rattle.liquid_shopify_host_filters.specs.declared.kind.ShopifyKind.TheVariants.{ShopifyAssetUrl}
use Rattle.liquid_shopify_host_filters.specs.declared.kind.ShopifyKind.TheVariants.{Squish, Style}
use Rattle.liquid_shopify_host_filters.specs.declared.kind.ShopifyKind.TheVariants.{StylesheetTag}
use Rattle.liquid_shopify_host_filters.specs.declared.kind.ShopifyKind.TheVariants.{Sum, UrlForType}
use Rattle.liquid_shopify_host_filters.specs.declared.kind.ShopifyKind.TheVariants.{UrlForVendor}
use Rattle.liquid_shopify_host_filters.specs.declared.kind.ShopifyKind.TheVariants.{WeightWithUnit}
use Rattle.liquid_shopify_host_filters.specs.declared.kind.ShopifyKind.TheVariants.{Within}

-- the name by which templates call a filter
abbrev pub shopify_filter_name : ShopifyKind → Text
shopify_filter_name AssetUrl = codes "asset_url"
shopify_filter_name Base64Decode = codes "base64_decode"
shopify_filter_name Base64Encode = codes "base64_encode"
shopify_filter_name Camelize = codes "camelize"
shopify_filter_name kinds.DefaultPagination = codes "default_pagination"
shopify_filter_name Find = codes "find"
shopify_filter_name FindIndex = codes "find_index"
shopify_filter_name Form = codes "form"
shopify_filter_name GlobalAssetUrl = codes "global_asset_url"
shopify_filter_name Handle = codes "handle"
shopify_filter_name Handleize = codes "handleize"
shopify_filter_name Has = codes "has"
shopify_filter_name HighlightActiveTag = codes "highlight_active_tag"
shopify_filter_name HmacSha256 = codes "hmac_sha256"
shopify_filter_name ImgTag = codes "img_tag"
shopify_filter_name Json = codes "json"
shopify_filter_name Layout = codes "layout"
shopify_filter_name LinkTo = codes "link_to"
shopify_filter_name LinkToAddTag = codes "link_to_add_tag"
shopify_filter_name LinkToRemoveTag = codes "link_to_remove_tag"
shopify_filter_name LinkToTag = codes "link_to_tag"
shopify_filter_name LinkToType = codes "link_to_type"
shopify_filter_name LinkToVendor = codes "link_to_vendor"
shopify_filter_name Md5 = codes "md5"
shopify_filter_name Money = codes "money"
shopify_filter_name MoneyWithCurrency = codes "money_with_currency"
shopify_filter_name MoneyWithoutCurrency = codes "money_without_currency"
shopify_filter_name MoneyWithoutTrailingZeros = codes "money_without_trailing_zeros"
shopify_filter_name NoText = codes "no_text"
shopify_filter_name Paginate = codes "paginate"
shopify_filter_name ProductImgUrl = codes "product_img_url"
shopify_filter_name Reject = codes "reject"
shopify_filter_name RemoveLast = codes "remove_last"
shopify_filter_name ReplaceLast = codes "replace_last"
shopify_filter_name ScriptTag = codes "script_tag"
shopify_filter_name Section = codes "section"
shopify_filter_name Sha1 = codes "sha1"
shopify_filter_name Sha256 = codes "sha256"
shopify_filter_name ShopifyAssetUrl = codes "shopify_asset_url"
shopify_filter_name Squish = codes "squish"
shopify_filter_name Style = codes "style"
shopify_filter_name StylesheetTag = codes "stylesheet_tag"
shopify_filter_name Sum = codes "sum"
shopify_filter_name UrlForType = codes "url_for_type"
shopify_filter_name UrlForVendor = codes "url_for_vendor"
shopify_filter_name WeightWithUnit = codes "weight_with_unit"
shopify_filter_name Within = codes "within"

-- how many arguments it takes at least
abbrev pub least_of : ShopifyKind → ℕ
least_of Find = 1
least_of FindIndex = 1
least_of Form = 1
least_of Has = 1
least_of HmacSha256 = 1
least_of Layout = 1
least_of LinkTo = 1
least_of LinkToAddTag = 1
least_of LinkToRemoveTag = 1
least_of LinkToTag = 1
least_of Paginate = 1
least_of Reject = 1
least_of RemoveLast = 1
least_of ReplaceLast = 2
least_of Section = 1
least_of Within = 1
least_of _ = 0

-- how many arguments it takes at most
abbrev pub most_arguments : ShopifyKind → ℕ
most_arguments Find = 2
most_arguments FindIndex = 2
most_arguments Form = 2
most_arguments Has = 2
most_arguments HighlightActiveTag = 1
most_arguments HmacSha256 = 1
most_arguments ImgTag = 1
most_arguments Layout = 1
most_arguments LinkTo = 2
most_arguments LinkToAddTag = 1
most_arguments LinkToRemoveTag = 1
most_arguments LinkToTag = 1
most_arguments Paginate = 1
most_arguments ProductImgUrl = 1
most_arguments Reject = 2
most_arguments RemoveLast = 1
most_arguments ReplaceLast = 2
most_arguments Section = 1
most_arguments StylesheetTag = 1
most_arguments Sum = 1
most_arguments Within = 1
most_arguments _ = 0

abbrev pub takes_arguments : ShopifyKind → ℕ → Bool
takes_arguments kind n = nat_le (least_of kind) n && nat_le n (most_arguments kind)
