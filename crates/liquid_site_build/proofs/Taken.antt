-- What a layout sees is taken out of the scope of a page again.
use Rattle.std.proofs.Common.{◌≡◌, Bool, true, false, cond, List, [], ◌∷◌, codes, is_eq, nat_cmp, String, Global, string_bytes, refl, ap, ◌∙◌}
use Rattle.std.specs.Cmp.Lexicographic.{slice_cmp}
use Rattle.std.specs.Map.{remove_entry}
use Rattle.liquid_language.proofs.Inserted.{named}
use Rattle.liquid_model.specs.Data.{Datum, object, put, text, Pairs, no_pairs, pair}
use Rattle.liquid_model.specs.Texts.{Text}
use Rattle.liquid_model.specs.View.{view, pairs_view}
use Rattle.liquid_model.proofs.Views.{Entry}
use Rattle.liquid_site_build.specs.Built.{scope_of, layout_scope}
use Rattle.liquid_site_build.specs.Sources.{SiteText}

abbrev pub taken : Text → Pairs → Pairs
taken name no_pairs = no_pairs
taken name (pair k d ps) = cond (is_eq (slice_cmp nat_cmp name k)) ps (pair k d (taken name ps))

pub taken_view : (name : Text) (es : List Entry) → pairs_view (remove_entry (named name) es) ≡ taken name (pairs_view es)
taken_view name [] = refl
taken_view name (e ∷ es) = on (is_eq (slice_cmp nat_cmp name (string_bytes e.0))) (taken_view name es)
  where
    on : (b : Bool) → pairs_view (remove_entry (named name) es) ≡ taken name (pairs_view es) → pairs_view (cond b es (e ∷ remove_entry (named name) es)) ≡ cond b (pairs_view es) (pair (string_bytes e.0) (view e.1) (taken name (pairs_view es)))
    on true h = refl
    on false h = ap (pair (string_bytes e.0) (view e.1)) h

pub scope_again : (page site : Pairs) (content : Text) (l : SiteText) → taken (codes "layout") (taken (codes "content") (layout_scope (scope_of page site) content l)) ≡ scope_of page site
scope_again page site content l = refl

-- the scope of another page
pub page_again : (other page site : Pairs) (ps : Pairs) {d : Datum} → ps ≡ scope_of page site → d ≡ object other → put (codes "page") d ps ≡ scope_of other site
page_again other page site ps over is = λ i. put (codes "page") (is i) (over i)

-- what a layout sees is put into the scope
pub layout_put : (before one both : Pairs) (content : Text) (l : SiteText) {d e : Datum} → one ≡ put (codes "content") d before → d ≡ text content → both ≡ put (codes "layout") e one → e ≡ object l.front → both ≡ layout_scope before content l
layout_put before one both content l first is second last =
    second ∙ (λ i. put (codes "layout") (last i) (first i)) ∙ ap (λ d. put (codes "layout") (object l.front) (put (codes "content") d before)) is
