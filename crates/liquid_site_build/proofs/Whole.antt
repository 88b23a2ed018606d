-- A page that no limit ended is the whole page.
use Rattle.std.proofs.Common.{◌≡◌, true, false, Some, None, is_some, sym, ap, ◌∙◌, ⊎_elim}
use Rattle.liquid_engine.specs.LimitedPages.{PageWithin}
use Rattle.liquid_engine.specs.Pages.{Shown, page_view}
use Rattle.liquid_engine.specs.declared.rendered_page.LimitedPage.{LimitedPage}

apart : false ≡ true → ⊥
apart h = cc

pub page_whole : (whole : Shown) (p : LimitedPage) → p.limit ≡ None → PageWithin whole p → page_view p.page ≡ whole
page_whole whole p none within = ⊎_elim (λ h. h.1) (λ h. absurd (apart (sym (ap is_some none) ∙ h.0))) within
