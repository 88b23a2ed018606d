use Rattle.std.proofs.Common.{Some, None, string_bytes, string_cmp, sym, ap, ◌∙◌}
use Rattle.std.specs.BTreeMap.{insert_entry}
use Rattle.std.specs.Option.{option_copied_mut}
use Rattle.liquid_model.specs.Maps.{listed}
use Rattle.liquid_language.specs.Entries.{seen, placed, put_entry}
use Rattle.liquid_language.proofs.Inserted.{seen_inserted}
use Rattle.liquid_syntax.proofs.Held.{ascend_seen, seen_found, seen_placed}
use Rattle.liquid_site_build.specs.SourceViews.{site_text_view, site_texts_view, sources_view}
use Rattle.liquid_site_build.proofs.Puts.{on_err, placed_same, put_in_collection, put_in_none}
use Rattle.liquid_site_build.proofs.sources.SiteSources.put_document.Goals as goal

pub returns-in_err-insert-in-Some-clause-unchanged : goal.returns-in_err-insert-in-Some-clause-unchanged
returns-in_err-insert-in-Some-clause-unchanged c =
    let f = site_texts_view in
    let es = c.args.self.now.collections.entries in
    let name = c.as_str.result.now in
    let found = seen_found f name es (Some c.in-Some.documents.now) (sym (ap option_copied_mut c.in-Some.is) ∙ c.get_mut.ensures.value) in
    on_err c.from_residual.result (
    ap (λ cs. record (sources_view c.args.self.now) { collections = cs })
    (ap (seen f) (c.get_mut.follows.holds c.insert.new.self).0 ∙ seen_placed f name c.insert.new.self es
    ∙ ap (λ ts. placed name (seen site_text_view ts) (seen f es)) c.in_err-insert-in-Some.ensures.err ∙ placed_same name (f c.in-Some.documents.now) (seen f es) found))

pub returns-in_ok-insert-in-Some-clause-put : goal.returns-in_ok-insert-in-Some-clause-put
returns-in_ok-insert-in-Some-clause-put c =
    let f = site_texts_view in
    let es = c.args.self.now.collections.entries in
    let name = string_bytes c.args.collection in
    let found = ap (λ n. listed (seen f es) n) (sym c.as_str.ensures.value) ∙ seen_found f c.as_str.result.now es (Some c.in-Some.documents.now) (sym (ap option_copied_mut c.in-Some.is) ∙ c.get_mut.ensures.value) in
    let put = ap (seen site_text_view) c.in_ok-insert-in-Some.ensures.entries ∙ seen_inserted site_text_view c.in-Some.documents.now.entries c.args.path c.args.text in
    ap (λ cs. record (sources_view c.args.self.now) { collections = cs })
    (ap (seen f) (c.get_mut.follows.holds c.insert.new.self).0 ∙ seen_placed f c.as_str.result.now c.insert.new.self es
    ∙ ap (λ n. placed n (f c.insert.new.self) (seen f es)) c.as_str.ensures.value
    ∙ put_in_collection name (string_bytes c.args.path) (site_text_view c.args.text) (seen f es) (f c.in-Some.documents.now) (f c.insert.new.self) (ascend_seen f es c.get_mut.ensures.ordered) found put)

pub returns-in_ok-insert-in-None-clause-put : goal.returns-in_ok-insert-in-None-clause-put
returns-in_ok-insert-in-None-clause-put c =
    let f = site_texts_view in
    let es = c.args.self.now.collections.entries in
    let name = string_bytes c.args.collection in
    let none = ap (λ n. listed (seen f es) n) (sym c.as_str.ensures.value) ∙ seen_found f c.as_str.result.now es None (sym (ap option_copied_mut c.in-None.is) ∙ c.get_mut.ensures.value) in
    ap (λ cs. record (sources_view c.args.self.now) { collections = cs })
    (ap (seen f) c.in_ok-insert-in-None.ensures.entries ∙ ap (λ m. seen f (insert_entry string_cmp m.entries c.args.collection c.in_ok-documents-in-None.documents)) c.get_mut.follows.holds-at-none ∙ seen_inserted f es c.args.collection c.in_ok-documents-in-None.documents
    ∙ ap (λ ts. put_entry name ts (seen f es)) c.in_ok-documents-in-None.ensures
    ∙ put_in_none name (string_bytes c.args.path) (site_text_view c.args.text) (seen f es) none)
