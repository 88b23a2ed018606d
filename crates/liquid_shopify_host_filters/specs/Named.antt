-- Shopify's filters by their names.
use Rattle.std.specs.Prelude.{List, [], ◌∷◌, Option, Some, None, cond}
use Rattle.liquid_model.specs.Texts.{Text, same_text}
use Rattle.liquid_shopify_host_filters.specs.Kinds.{shopify_filter_name}
use Rattle.liquid_shopify_host_filters.specs.declared.kind.ShopifyKind.{ShopifyKind}
use Rattle.liquid_shopify_host_filters.specs.declared.kind.ShopifyKind.TheVariants as each

abbrev pub shopify_kind_among : Text → List ShopifyKind → Option ShopifyKind
shopify_kind_among name [] = None
shopify_kind_among name (k ∷ ks) =
    cond (same_text (shopify_filter_name k) name) (Some k) (shopify_kind_among name ks)

-- each of them
abbrev pub each_shopify_kind : List ShopifyKind
each_shopify_kind =
    each.AssetUrl ∷ each.Base64Decode ∷ each.Base64Encode ∷ each.Camelize ∷
    each.DefaultPagination ∷ each.Find ∷ each.FindIndex ∷ each.Form ∷ each.GlobalAssetUrl ∷
    each.Handle ∷ each.Handleize ∷ each.Has ∷ each.HighlightActiveTag ∷ each.HmacSha256 ∷
    each.ImgTag ∷ each.Json ∷ each.Layout ∷ each.LinkTo ∷ each.LinkToAddTag ∷
    each.LinkToRemoveTag ∷ each.LinkToTag ∷ each.LinkToType ∷ each.LinkToVendor ∷ each.Md5 ∷
    each.Money ∷ each.MoneyWithCurrency ∷ each.MoneyWithoutCurrency ∷
    each.MoneyWithoutTrailingZeros ∷ each.NoText ∷ each.Paginate ∷ each.ProductImgUrl ∷
    each.Reject ∷ each.RemoveLast ∷ each.ReplaceLast ∷ each.ScriptTag ∷ each.Section ∷ each.Sha1 ∷
    each.Sha256 ∷ each.ShopifyAssetUrl ∷ each.Squish ∷ each.Style ∷ each.StylesheetTag ∷
    each.Sum ∷ each.UrlForType ∷ each.UrlForVendor ∷ each.WeightWithUnit ∷ each.Within ∷ []

-- the filter of a name, where there is one
abbrev pub shopify_kind_named : Text → Option ShopifyKind
shopify_kind_named name = shopify_kind_among name each_shopify_kind
