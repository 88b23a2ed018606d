-- What each filter answers.
use Rattle.std.specs.Prelude.{List, map, Ok, string_bytes}
use Rattle.liquid_model.specs.Data.{Datum}
use Rattle.liquid_model.specs.Texts.{Text}
use Rattle.liquid_model.specs.Arguments.{Answer}
use Rattle.liquid_shopify_host_filters.specs.Codecs.{decode_answer, encode_answer}
use Rattle.liquid_shopify_host_filters.specs.Codecs.{hmac_sha256_answer, json_answer}
use Rattle.liquid_shopify_host_filters.specs.Codecs.{md5_answer, sha1_answer, sha256_answer}
use Rattle.liquid_shopify_host_filters.specs.Forms.{form_answer}
use Rattle.liquid_shopify_host_filters.specs.Html.{img_tag_answer, link_to_answer}
use Rattle.liquid_shopify_host_filters.specs.Html.{link_to_collection_answer, script_tag_answer}
use Rattle.liquid_shopify_host_filters.specs.Html.{stylesheet_tag_answer}
use Rattle.liquid_shopify_host_filters.specs.Images.{product_img_url_answer}
use Rattle.liquid_shopify_host_filters.specs.Last.{remove_last_answer, replace_last_answer}
use Rattle.liquid_shopify_host_filters.specs.Lookups.{shopify_find_answer, find_index_answer}
use Rattle.liquid_shopify_host_filters.specs.Lookups.{has_answer}
use Rattle.liquid_shopify_host_filters.specs.Lookups.{reject_answer}
use Rattle.liquid_shopify_host_filters.specs.Money.{amount_answer, money_answer, trimmed_answer}
use Rattle.liquid_shopify_host_filters.specs.Pagination.{pagination_answer}
use Rattle.liquid_shopify_host_filters.specs.Sections.{no_text_answer, section_answer, style_answer}
use Rattle.liquid_shopify_host_filters.specs.Sums.{sum_answer}
use Rattle.liquid_shopify_host_filters.specs.Tags.{highlight_answer, link_to_add_tag_answer}
use Rattle.liquid_shopify_host_filters.specs.Tags.{link_to_remove_tag_answer, link_to_tag_answer}
use Rattle.liquid_shopify_host_filters.specs.Tags.{within_answer}
use Rattle.liquid_shopify_host_filters.specs.Urls.{prefixed_answer, url_for_answer}
use Rattle.liquid_shopify_host_filters.specs.Weights.{weight_answer}
use Rattle.liquid_shopify_host_filters.specs.Wordings.{camelize_answer, handle_answer}
use Rattle.liquid_shopify_host_filters.specs.Wordings.{squish_answer}
use Rattle.liquid_shopify_host_filters.specs.declared.kind.ShopifyKind.{ShopifyKind}
use Rattle.liquid_shopify_host_filters.specs.declared.kind.ShopifyKind.TheVariants.{AssetUrl}
use Rattle.liquid_shopify_host_filters.specs.declared.kind.ShopifyKind.TheVariants.{Base64Decode}
use Rattle.liquid_shopify_host_filters.specs.declared.kind.ShopifyKind.TheVariants.{Base64Encode}
use Rattle.liquid_shopify_host_filters.specs.declared.kind.ShopifyKind.TheVariants.{Camelize}
use Rattle.liquid_shopify_host_filters.specs.declared.kind.ShopifyKind.TheVariants as kinds
use Rattle.liquid_shopify_host_filters.specs.declared.kind.ShopifyKind.TheVariants.{Find, FindIndex}
use Rattle.liquid_shopify_host_filters.specs.declared.kind.ShopifyKind.TheVariants.{Form}
use Rattle.liquid_shopify_host_filters.specs.declared.kind.ShopifyKind.TheVariants.{GlobalAssetUrl}
use Rattle.liquid_shopify_host_filters.specs.declared.kind.ShopifyKind.TheVariants.{Handle}
use Rattle.liquid_shopify_host_filters.specs.declared.kind.ShopifyKind.TheVariants.{Handleize, Has}
use Rattle.liquid_shopify_host_filters.specs.declared.kind.ShopifyKind.TheVariants.{HighlightActiveTag}
use Rattle.liquid_shopify_host_filters.specs.declared.kind.ShopifyKind.TheVariants.{HmacSha256}
use Rattle.liquid_shopify_host_filters.specs.declared.kind.ShopifyKind.TheVariants.{ImgTag, Json}
use Rattle.liquid_shopify_host_filters.specs.declared.kind.ShopifyKind.TheVariants.{Layout, LinkTo}
use Rattle.liquid_shopify_host_filters.specs.declared.kind.ShopifyKind.TheVariants.{LinkToAddTag}
use Rattle.liquid_shopify_host_filters.specs.declared.kind.ShopifyKind.TheVariants.{LinkToRemoveTag}
use Rattle.liquid_shopify_host_filters.specs.declared.kind.ShopifyKind.TheVariants.{LinkToTag}
use Rattle.liquid_shopify_host_filters.specs.declared.kind.ShopifyKind.TheVariants.{LinkToType}
use Rattle.liquid_shopify_host_filters.specs.declared.kind.ShopifyKind.TheVariants.{LinkToVendor}
use Rattle.liquid_shopify_host_filters.specs.declared.kind.ShopifyKind.TheVariants.{Md5, Money}
use Rattle.liquid_shopify_host_filters.specs.declared.kind.ShopifyKind.TheVariants.{MoneyWithCurrency}
use Rattle.liquid_shopify_host_filters.specs.declared.kind.ShopifyKind.TheVariants.{MoneyWithoutCurrency}
use Rattle.liquid_shopify_host_filters.specs.declared.kind.ShopifyKind.TheVariants.{MoneyWithoutTrailingZeros}
use Rattle.liquid_shopify_host_filters.specs.declared.kind.ShopifyKind.TheVariants.{NoText}
use Rattle.liquid_shopify_host_filters.specs.declared.kind.ShopifyKind.TheVariants.{Paginate}
use Rattle.liquid_shopify_host_filters.specs.declared.kind.ShopifyKind.TheVariants.{ProductImgUrl}
use Rattle.liquid_shopify_host_filters.specs.declared.kind.ShopifyKind.TheVariants.{Reject}
use Rattle.liquid_shopify_host_filters.specs.declared.kind.ShopifyKind.TheVariants.{RemoveLast}
use Rattle.liquid_shopify_host_filters.specs.declared.kind.ShopifyKind.TheVariants.{ReplaceLast}
use Rattle.liquid_shopify_host_filters.specs.declared.kind.ShopifyKind.TheVariants.{ScriptTag}
use Rattle.liquid_shopify_host_filters.specs.declared.kind.ShopifyKind.TheVariants.{Section, Sha1}
use Rattle.liquid_shopify_host_filters.specs.declared.kind.ShopifyKind.TheVariants.{Sha256}
use Rattle.liquid_shopify_host_filters.specs.declared.kind.ShopifyKind.TheVariants.{ShopifyAssetUrl}
use Rattle.liquid_shopify_host_filters.specs.declared.kind.ShopifyKind.TheVariants.{Squish, Style}
use Rattle.liquid_shopify_host_filters.specs.declared.kind.ShopifyKind.TheVariants.{StylesheetTag}
use Rattle.liquid_shopify_host_filters.specs.declared.kind.ShopifyKind.TheVariants.{Sum, UrlForType}
use Rattle.liquid_shopify_host_filters.specs.declared.kind.ShopifyKind.TheVariants.{UrlForVendor}
use Rattle.liquid_shopify_host_filters.specs.declared.kind.ShopifyKind.TheVariants.{WeightWithUnit}
use Rattle.liquid_shopify_host_filters.specs.declared.kind.ShopifyKind.TheVariants.{Within}
use Rattle.liquid_shopify_host_filters.specs.declared.shop.Shop.{Shop}

-- the tags of a page, and the handle of its collection
abbrev pub tags_of : Shop → List Text
tags_of shop = map string_bytes shop.tags.items

abbrev pub collection_of : Shop → Text
collection_of shop = string_bytes shop.collection

-- a filter's answer in a shop, to an input and arguments
abbrev pub shopify_answer : ShopifyKind → Shop → Datum → List Datum → Answer
shopify_answer AssetUrl shop d args = prefixed_answer (string_bytes shop.assets) d
shopify_answer Base64Decode shop d args = decode_answer d
shopify_answer Base64Encode shop d args = encode_answer d
shopify_answer Camelize shop d args = camelize_answer d
shopify_answer kinds.DefaultPagination shop d args = pagination_answer d
shopify_answer Find shop d args = shopify_find_answer d args
shopify_answer FindIndex shop d args = find_index_answer d args
shopify_answer Form shop d args = form_answer d args
shopify_answer GlobalAssetUrl shop d args = prefixed_answer (string_bytes shop.global_assets) d
shopify_answer Handle shop d args = handle_answer d
shopify_answer Handleize shop d args = handle_answer d
shopify_answer Has shop d args = has_answer d args
shopify_answer HighlightActiveTag shop d args = highlight_answer (tags_of shop) d args
shopify_answer HmacSha256 shop d args = hmac_sha256_answer d args
shopify_answer ImgTag shop d args = img_tag_answer d args
shopify_answer Json shop d args = json_answer d
shopify_answer Layout shop d args = no_text_answer
shopify_answer LinkTo shop d args = link_to_answer d args
shopify_answer LinkToAddTag shop d args =
    link_to_add_tag_answer (collection_of shop) (tags_of shop) d args
shopify_answer LinkToRemoveTag shop d args = link_to_remove_tag_answer (collection_of shop)
    (tags_of shop) d args
shopify_answer LinkToTag shop d args = link_to_tag_answer (collection_of shop) d args
shopify_answer LinkToType shop d args = link_to_collection_answer d
shopify_answer LinkToVendor shop d args = link_to_collection_answer d
shopify_answer Md5 shop d args = md5_answer d
shopify_answer Money shop d args = money_answer shop.money d
shopify_answer MoneyWithCurrency shop d args = money_answer shop.money_with_currency d
shopify_answer MoneyWithoutCurrency shop d args = amount_answer shop.money d
shopify_answer MoneyWithoutTrailingZeros shop d args = trimmed_answer shop.money d
shopify_answer NoText shop d args = no_text_answer
shopify_answer Paginate shop d args = Ok d
shopify_answer ProductImgUrl shop d args = product_img_url_answer (string_bytes shop.images) d args
shopify_answer Reject shop d args = reject_answer d args
shopify_answer RemoveLast shop d args = remove_last_answer d args
shopify_answer ReplaceLast shop d args = replace_last_answer d args
shopify_answer ScriptTag shop d args = script_tag_answer d
shopify_answer Section shop d args = section_answer d args
shopify_answer Sha1 shop d args = sha1_answer d
shopify_answer Sha256 shop d args = sha256_answer d
shopify_answer ShopifyAssetUrl shop d args = prefixed_answer (string_bytes shop.shopify_assets) d
shopify_answer Squish shop d args = squish_answer d
shopify_answer Style shop d args = style_answer d
shopify_answer StylesheetTag shop d args = stylesheet_tag_answer d args
shopify_answer Sum shop d args = sum_answer d args
shopify_answer UrlForType shop d args = url_for_answer d
shopify_answer UrlForVendor shop d args = url_for_answer d
shopify_answer WeightWithUnit shop d args = weight_answer d
shopify_answer Within shop d args = within_answer d args
