-- The page that a template shows within limits.
use Rattle.std.specs.Prelude.{◌≡◌, ◌++◌, ◌⊎◌, true, Some, None, IsSome, IfSome, length}
use Rattle.liquid_model.specs.Texts.{Text}
use Rattle.liquid_model.specs.declared.error.ErrorKind.TheVariants.{Write}
use Rattle.liquid_engine.specs.Limits.{is_limited_by, is_within_limit}
use Rattle.liquid_engine.specs.Pages.{Shown, page_view}
use Rattle.liquid_engine.specs.declared.limits.Limits.{Limits}
use Rattle.liquid_engine.specs.declared.rendered_page.LimitedPage.{LimitedPage}

-- a beginning of a text
abbrev pub IsPrefixOf : Text → Text → Type 0
IsPrefixOf front whole = (rest : Text) × (front ++ rest ≡ whole)

-- No limit was reached, and it is the whole page; or one was, and the page has a beginning of
-- its text and ends by `Write`.
abbrev pub PageWithin : Shown → LimitedPage → Type 0
PageWithin whole p =
    ((p.limit ≡ None) × (page_view p.page ≡ whole))
    ⊎ (IsSome p.limit × ((page_view p.page).fault ≡ Some Write)
    × IsPrefixOf (page_view p.page).text whole.text)

-- its text has no more bytes than they allow, and a limit that ended it is one of them
abbrev pub KeepsLimits : Limits → LimitedPage → Type 0
KeepsLimits limits p =
    (is_within_limit (length (page_view p.page).text) limits.bytes ≡ true)
    × IfSome p.limit (λ reached. is_limited_by reached limits ≡ true)

abbrev pub ShownWithin : Limits → Shown → LimitedPage → Type 0
ShownWithin limits whole p = PageWithin whole p × KeepsLimits limits p
