use Rattle.std.proofs.Common.{◌≡◌, sym, ap, ◌∙◌}
use Rattle.liquid_language.specs.Entries.{seen}
use Rattle.liquid_model.specs.Data.{put}
use Rattle.liquid_model.specs.View.{pairs_view}
use Rattle.liquid_site_build.specs.Built.{about, put_collections}
use Rattle.liquid_site_build.specs.SourceViews.{site_texts_view}
use Rattle.liquid_site_build.proofs.site_data.plain_site.Goals as goal

pub loop-name-preserved : goal.loop-name-preserved
loop-name-preserved c =
    let l = c.loop-name in
    ap (put_collections about (seen site_texts_view c.next.new.self)) (c.in_ok-put.ensures ∙ (λ i. put (c.as_str.ensures.value i) (c.in_ok-listed.ensures i) (pairs_view l.site.entries)))
    ∙ ap (λ es. put_collections about (seen site_texts_view es) (pairs_view l.site.entries)) (sym c.in-Some.ensures.steps) ∙ l.invariant
