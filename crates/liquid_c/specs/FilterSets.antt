-- Sets of filters that the library has itself: their languages, and tables that have them.
use Rattle.std.specs.Prelude.{◌≡◌, ℕ, Option, Some, None, Result, Ok, Err, codes, [], true}
use Rattle.std.specs.Prelude.{if◌then◌else◌, nat_eq, string_bytes}
use Rattle.liquid_model.specs.Data.{Pairs}
use Rattle.liquid_model.specs.Texts.{Text}
use Rattle.liquid_model.specs.View.{pairs_view}
use Rattle.liquid_model.specs.declared.error.ErrorKind.TheVariants.{Memory}
use Rattle.liquid_filter_sets.specs.Languages.{HasDecimals, IsJekyll, IsShopify}
use Rattle.liquid_filter_sets.specs.MoneyFormats.{WritesAmounts}
use Rattle.liquid_filter_sets.specs.Settings.{assets_before, member_or_empty, member_text}
use Rattle.liquid_filter_sets.specs.Settings.{tags_in}
use Rattle.liquid_filter_sets.specs.Views.{texts_view}
use Rattle.liquid_shopify_host_filters.specs.declared.shop.Shop.{Shop}
use Rattle.liquid_answers.specs.Tables.{site_of}
use Rattle.liquid_answers.specs.declared.answers.Answers.{Answers}
use Rattle.liquid_c.specs.Numbers.{number_of_refusal}
use Rattle.liquid_c.specs.Jekylls.{HasSite}
use Rattle.liquid_c.specs.Tables.{ChangesTable, HasSameAnswers, HoldsTable}
use Rattle.liquid_c.specs.declared.content.Content.{Content}
use Rattle.liquid_c.specs.declared.content.Content.TheVariants as content
use Rattle.liquid_c.specs.declared.handle_content.HandleContent.{HandleContent}
use Rattle.liquid_c.specs.declared.handle_content.HandleContent.TheVariants.{Own, Shared}
use Rattle.liquid_c.specs.declared.refusal.Refusal.{Refusal}
use Rattle.liquid_c.specs.declared.refusal.Refusal.TheVariants.{NoSuchSet, OtherHandle}
use Rattle.liquid_c.specs.declared.refusal.Refusal.TheVariants.{SharedHandle}
use Rattle.liquid_c.specs.declared.sets.FilterSet.{FilterSet}
use Rattle.liquid_c.specs.declared.sets.FilterSet.TheVariants as sets

abbrev pub set_numbered : ℕ → Option FilterSet
set_numbered asked = if nat_eq asked 1 then Some sets.Decimals
    else (if nat_eq asked 2 then Some sets.Jekyll
    else (if nat_eq asked 3 then Some sets.Shopify else None))

-- ---- their languages

abbrev pub IsSetLanguage : FilterSet → Content → Type 0
IsSetLanguage sets.Decimals (content.Language l) = HasDecimals l
IsSetLanguage sets.Jekyll (content.Language l) = IsJekyll l
IsSetLanguage sets.Shopify (content.Language l) = IsShopify l
IsSetLanguage set (content.Fault e) = e.kind ≡ Memory
IsSetLanguage set _ = ⊥

-- that of the set, or memory ran out;  or there is no such set
abbrev pub MakesSetLanguage : Option FilterSet → Result Content Refusal → Type 0
MakesSetLanguage (Some set) (Ok c) = IsSetLanguage set c
MakesSetLanguage (Some set) (Err r) = ⊥
MakesSetLanguage None answer = answer ≡ Err NoSuchSet

-- ---- tables that have them

-- what data say of a site or a shop
abbrev pub settings_of_handle : Option Content → Option Pairs
settings_of_handle (Some (content.Data d)) = Some (pairs_view d.entries)
settings_of_handle _ = None

-- the text at a name of the site, or the empty text
abbrev pub site_member : Text → Pairs → Text
site_member name ps = member_or_empty (codes "site") name ps

-- the shop that data say: its formats of money, the handle of the page's collection and the tags
-- of the page's products
pub record IsShopOf (ps : Pairs) (s : Shop) : Type 0 where
  pub collection : string_bytes s.collection ≡
      member_or_empty (codes "collection") (codes "handle") ps
  pub tags : texts_view s.tags ≡ tags_in ps
  pub money : WritesAmounts (member_text (codes "shop") (codes "money_format") ps) [] s.money
  pub with_currency : WritesAmounts
      (member_text (codes "shop") (codes "money_with_currency_format") ps) (codes " USD")
      s.money_with_currency
  pub assets : string_bytes s.assets ≡ assets_before None
  pub global_assets : string_bytes s.global_assets ≡ codes "/global/"
  pub shopify_assets : string_bytes s.shopify_assets ≡ codes "/shopify/"
  pub images : string_bytes s.images ≡ codes "/"

abbrev pub HoldsShop : Pairs → Option Shop → Type 0
HoldsShop ps None = ⊥
HoldsShop ps (Some s) = IsShopOf ps s

-- the new table has the shop, and is else the old one
abbrev pub HasShop : Pairs → Answers → Answers → Type 0
HasShop ps old new = HoldsShop ps new.shop × HasSameAnswers old new
    × (site_of new ≡ site_of old) × (new.has_decimals ≡ old.has_decimals)

-- the new table has the filters over decimals, and is else the old one
abbrev pub HasDecimalFilters : Answers → Answers → Type 0
HasDecimalFilters old new = (new.has_decimals ≡ true) × HasSameAnswers old new
    × (site_of new ≡ site_of old) × (new.shop ≡ old.shop)

abbrev pub PlacesSet : FilterSet → Pairs → Answers → ℕ → Option HandleContent → Type 0
PlacesSet sets.Decimals ps old number left = (number ≡ 0) × HoldsTable (HasDecimalFilters old) left
PlacesSet sets.Jekyll ps old number left = ChangesTable
    (HasSite (site_member (codes "url") ps) (site_member (codes "baseurl") ps)) old number left
PlacesSet sets.Shopify ps old number left = ChangesTable (HasShop ps) old number left

abbrev pub IsSetPlacing : Option HandleContent → Option FilterSet → Option Pairs → ℕ
    → Option HandleContent → Type 0
IsSetPlacing old None settings number left =
    (number ≡ number_of_refusal NoSuchSet) × (left ≡ old)
IsSetPlacing old (Some set) None number left =
    (number ≡ number_of_refusal OtherHandle) × (left ≡ old)
IsSetPlacing (Some (Own (content.Answers table))) (Some set) (Some ps) number left =
    PlacesSet set ps table number left
IsSetPlacing (Some (Shared c)) (Some set) (Some ps) number left =
    (number ≡ number_of_refusal SharedHandle) × (left ≡ Some (Shared c))
IsSetPlacing old (Some set) (Some ps) number left =
    (number ≡ number_of_refusal OtherHandle) × (left ≡ old)
