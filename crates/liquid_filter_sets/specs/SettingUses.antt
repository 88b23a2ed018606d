-- What the filters of a set look at in the data.
--     SeesSite U, SeesShop U      where data are alike in U, a site or a shop is made of the same
use Rattle.std.specs.Prelude.{◌≡◌, codes}
use Rattle.liquid_model.specs.Data.{Pairs}
use Rattle.liquid_model.specs.Skipping.{AlikeKeys}
use Rattle.liquid_model.specs.Texts.{Text}
use Rattle.liquid_model.specs.Uses.{Use}
use Rattle.liquid_filter_sets.specs.Conversions.{conversions_in}
use Rattle.liquid_filter_sets.specs.Settings.{member_text, tags_in}

-- the text at a name of a map is the same
abbrev pub SeesText : (Text → Use) → Text → Text → Type 0
SeesText U map name = (ps qs : Pairs) → AlikeKeys U ps qs →
    member_text map name ps ≡ member_text map name qs

pub record SeesSite (U : Text → Use) : Type 0 where
  pub address : SeesText U (codes "site") (codes "url")
  pub base : SeesText U (codes "site") (codes "baseurl")
  pub conversions : (name : Text) (ps qs : Pairs) → AlikeKeys U ps qs →
      conversions_in name ps ≡ conversions_in name qs

pub record SeesShop (U : Text → Use) : Type 0 where
  pub money : SeesText U (codes "shop") (codes "money_format")
  pub with_currency : SeesText U (codes "shop") (codes "money_with_currency_format")
  pub collection : SeesText U (codes "collection") (codes "handle")
  pub tags : (ps qs : Pairs) → AlikeKeys U ps qs → tags_in ps ≡ tags_in qs
