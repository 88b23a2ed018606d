-- The format in which a shop writes amounts of money, as `${{amount}} USD`.
--     IsMoneyFormat text before style after      a text is such a format: what stands before its
--                                                placeholder, how the placeholder's name says that
--                                                amounts are written, and what stands after it
--     WritesAmounts text after format      the format is the one that a text is; where the text is
--                                          none, an amount stands after `$ ` and before `after`
use Rattle.std.specs.Prelude.{◌≡◌, ◌≤◌, ◌⊎◌, ◌++◌, Option, Some, None, codes, length}
use Rattle.std.specs.Prelude.{string_bytes}
use Rattle.std.specs.Str.{trim}
use Rattle.liquid_model.specs.Texts.{Text}
use Rattle.liquid_shopify_host_filters.specs.Styles.{style_named}
use Rattle.liquid_shopify_host_filters.specs.declared.money.MoneyFormat.{MoneyFormat}
use Rattle.liquid_shopify_host_filters.specs.declared.money.MoneyStyle.{MoneyStyle}
use Rattle.liquid_shopify_host_filters.specs.declared.money.MoneyStyle.TheVariants.{Amount}

-- a text is cut in two by the sign that stands in it first
pub record IsCutAtFirst (sign text front back : Text) : Type 0 where
  pub whole : text ≡ front ++ (sign ++ back)
  pub first : (xs : Text) (ys : Text) → text ≡ xs ++ (sign ++ ys) → length front ≤ length xs

-- what stands after `{{` closes the placeholder: white space around the name is no part of it
pub record ClosesPlaceholder (rest : Text) (style : MoneyStyle) (after : Text) : Type 0 where
  pub name : Text
  pub closed : IsCutAtFirst (codes "}}") rest name after
  pub named : style_named (trim name) ≡ Some style

pub record IsMoneyFormat (text before : Text) (style : MoneyStyle) (after : Text) : Type 0 where
  pub rest : Text
  pub opened : IsCutAtFirst (codes "{{") text before rest
  pub closes : ClosesPlaceholder rest style after

abbrev pub ClosesNone : Text → Type 0
ClosesNone rest = (style : MoneyStyle) (after : Text) → ClosesPlaceholder rest style after → ⊥

abbrev pub IsNoMoneyFormat : Text → Type 0
IsNoMoneyFormat text = (before : Text) (style : MoneyStyle) (after : Text) →
    IsMoneyFormat text before style after → ⊥

pub record IsMadeOf (before : Text) (style : MoneyStyle) (after : Text) (format : MoneyFormat)
    : Type 0 where
  pub before_is : string_bytes format.before ≡ before
  pub style_is : format.style ≡ style
  pub after_is : string_bytes format.after ≡ after

abbrev pub IsPlainFormat : Text → MoneyFormat → Type 0
IsPlainFormat after format = IsMadeOf (codes "$ ") Amount after format

abbrev pub WritesAmounts : Option Text → Text → MoneyFormat → Type 0
WritesAmounts None after f = IsPlainFormat after f
WritesAmounts (Some text) after f =
    IsMoneyFormat text (string_bytes f.before) f.style (string_bytes f.after)
    ⊎ (IsNoMoneyFormat text × IsPlainFormat after f)
