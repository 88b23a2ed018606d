-- What the sets of filters of a table answer, which need no answers of the caller's.
--     set_answers table name      by name: over decimals, else Shopify's, else Jekyll's
use Rattle.std.specs.Prelude.{Bool, Option, Some, None, cond, length, option_map}
use Rattle.liquid_model.specs.FilterAnswers.{FilterAnswer}
use Rattle.liquid_model.specs.Texts.{Text}
use Rattle.liquid_decimals.specs.Answers.{decimal_answer}
use Rattle.liquid_decimals.specs.Kinds.{takes_decimal_arguments}
use Rattle.liquid_decimals.specs.Named.{decimal_filter_named}
use Rattle.liquid_decimals.specs.declared.filter.DecimalFilter.{DecimalFilter}
use Rattle.liquid_shopify_host_filters.specs.Answers.{shopify_answer}
use Rattle.liquid_shopify_host_filters.specs.Kinds.{takes_arguments}
use Rattle.liquid_shopify_host_filters.specs.Named.{shopify_kind_named}
use Rattle.liquid_shopify_host_filters.specs.declared.kind.ShopifyKind.{ShopifyKind}
use Rattle.liquid_shopify_host_filters.specs.declared.shop.Shop.{Shop}
use Rattle.liquid_answers.specs.Sites.{place_view, site_answers}
use Rattle.liquid_answers.specs.declared.answers.Answers.{Answers}

-- the filter over decimals of a name, where there are such
abbrev pub decimals_in : Bool → Text → Option DecimalFilter
decimals_in has name = cond has (decimal_filter_named name) None

-- a filter over decimals, where it takes so many arguments;  else what else there is
abbrev pub decimals_or : Option DecimalFilter → FilterAnswer → FilterAnswer
decimals_or None other input args = other input args
decimals_or (Some f) other input args = cond (takes_decimal_arguments f (length args))
    (decimal_answer f input args) (other input args)

-- the same of a filter of Shopify's over a shop
abbrev pub shopify_or : Shop → Option ShopifyKind → FilterAnswer → FilterAnswer
shopify_or shop None other input args = other input args
shopify_or shop (Some k) other input args = cond (takes_arguments k (length args))
    (shopify_answer k shop input args) (other input args)

-- where there is a shop
abbrev pub shop_answers : Option Shop → Text → FilterAnswer → FilterAnswer
shop_answers None name other = other
shop_answers (Some shop) name other = shopify_or shop (shopify_kind_named name) other

abbrev pub set_answers : Answers → Text → FilterAnswer
set_answers table name = decimals_or (decimals_in table.has_decimals name)
    (shop_answers table.shop name (site_answers (option_map place_view table.site) name))
