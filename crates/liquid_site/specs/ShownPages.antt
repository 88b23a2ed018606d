-- Whether the pages of a site are right, whatever the form in which it keeps them.
--     AreShown shows wholes pages      each page stands under the name of its whole page, and is
--       right for it
use Rattle.std.specs.Prelude.{◌≡◌, ⊤, List, [], ◌∷◌}
use Rattle.liquid_model.specs.Texts.{Text}
use Rattle.liquid_engine.specs.LimitedPages.{ShownWithin}
use Rattle.liquid_engine.specs.Pages.{Shown, page_view}
use Rattle.liquid_engine.specs.declared.limits.Limits.{Limits}
use Rattle.liquid_engine.specs.declared.rendered_page.LimitedPage.{LimitedPage}
use Rattle.liquid_engine.specs.declared.rendered_page.Page.{Page}
use Rattle.liquid_site.specs.Contents.{Pages}

-- without limits, it is the whole page
abbrev pub IsWhole : Shown → Page → Type 0
IsWhole whole page = page_view page ≡ whole

module _ {P : Type 0} where
  abbrev pub AreShown : (Shown → P → Type 0) → Pages → List (Text × P) → Type 0
  AreShown shows [] [] = ⊤
  AreShown shows (w ∷ ws) (p ∷ ps) = (w.0 ≡ p.0) × shows w.1 p.1 × AreShown shows ws ps
  AreShown shows _ _ = ⊥

-- within limits: each page is its whole page, or a beginning of it that one of them ended
abbrev pub AreWithin : Limits → Pages → List (Text × LimitedPage) → Type 0
AreWithin limits wholes pages = AreShown (ShownWithin limits) wholes pages
