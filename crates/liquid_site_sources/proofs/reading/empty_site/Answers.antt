use Rattle.std.proofs.Common.{◌≡◌, ◌+◌, ◌∷◌, drop, string_bytes, ap, sym, subst, ◌∙◌}
use Rattle.std.proofs.lemmas.List.{drop_more}
use Rattle.liquid_language.specs.Entries.{put_entry, seen}
use Rattle.liquid_language.proofs.Inserted.{seen_inserted}
use Rattle.liquid_site_build.specs.Sources.{SiteSources}
use Rattle.liquid_site_build.specs.SourceViews.{site_text_view, site_texts_view}
use Rattle.liquid_site_sources.proofs.Readings.{named_turn}
use Rattle.liquid_site_sources.proofs.reading.empty_site.Goals as goal

pub loop-collection-preserved : goal.loop-collection-preserved
loop-collection-preserved c =
    let items = c.args.folders.now.collections.items in
    let seen_items = c.deref-collection-items.result.now in
    let i = c.loop-collection.collection-index in
    let x = c.collection-item.result in
    let old = c.loop-collection.sources.collections.entries in
    let left : drop i items ≡ x ∷ drop (i + 1) items =
    subst (λ xs. drop i xs ≡ x ∷ drop (i + 1) xs) c.deref-collection-items.ensures.value
    (drop_more seen_items i x c.loop-collection-test.true ∙ ap (λ y. y ∷ drop (i + 1) seen_items) (sym c.collection-item.is)) in
    let named : string_bytes c.in_ok-name.name ≡ string_bytes x.name = c.in_ok-name.ensures.ok ∙ c.as_str.ensures.value in
    let put = ap (seen site_texts_view) c.in_ok-insert.ensures.entries ∙ seen_inserted site_texts_view old c.in_ok-name.name c.new.result
    ∙ ap (λ k. put_entry k (seen site_text_view c.new.result.entries) (seen site_texts_view old)) named
    ∙ ap (λ es. put_entry (string_bytes x.name) (seen site_text_view es) (seen site_texts_view old)) c.new.ensures.empty in
    record {
      others = ap {A = SiteSources} (λ s. record s { collections = seen site_texts_view c.insert.new.self.entries }) c.loop-collection.invariant.others;
      named = named_turn (seen site_texts_view old) (seen site_texts_view c.insert.new.self.entries) (drop i items) (drop (i + 1) items) x _ left put c.loop-collection.invariant.named;
    }
