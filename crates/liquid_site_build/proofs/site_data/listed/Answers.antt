use Rattle.std.proofs.Common.{◌≡◌, [], ◌∷◌, ◌++◌, map, string_bytes, sym, ap, ◌∙◌}
use Rattle.std.proofs.lemmas.List.{map-append}
use Rattle.liquid_language.specs.Entries.{seen}
use Rattle.liquid_model.specs.Data.{Datum, object}
use Rattle.liquid_model.specs.View.{view}
use Rattle.liquid_model.proofs.Views.{view-Object}
use Rattle.liquid_site_build.specs.Built.{about}
use Rattle.liquid_site_build.specs.SourceViews.{site_text_view, site_texts_view}
use Rattle.liquid_site_build.specs.Sources.{SiteDocument}
use Rattle.liquid_site_build.proofs.Lists.{one_more}
use Rattle.liquid_site_build.proofs.site_data.listed.Goals as goal

pub loop-path-preserved : goal.loop-path-preserved
loop-path-preserved c =
    let f : SiteDocument → Datum = λ d. object (about d) in
    let l = c.loop-path in
    let own = c.in_ok-about.field-0 in
    let named = c.in_ok-about.ensures ∙ ap (λ path. about (path, site_text_view c.in-Some.text.now)) c.as_str.ensures.value in
    one_more f (map view l.items.items) (map view c.push.new.self.items) (map f (site_texts_view c.args.texts.now)) (string_bytes c.in-Some.path.now, site_text_view c.in-Some.text.now) _ (seen site_text_view c.next.new.self)
    (ap (map view) c.in_ok-push.ensures.items ∙ map-append view l.items.items (_ ∷ []))
    (view-Object own ∙ ap object named)
    (ap (λ es. map view l.items.items ++ map f (seen site_text_view es)) (sym c.in-Some.ensures.steps) ∙ l.invariant)
