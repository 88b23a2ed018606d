use Rattle.std.proofs.Common.{◌≡◌, rules, IsSome, option_map, length, subst, sym, ap, ◌∙◌}
use Rattle.std.specs.Vec.{vec_len}
use Rattle.std.proofs.lemmas.List.{length-map}
use Rattle.liquid_model.specs.Maps.{listed}
use Rattle.liquid_core.specs.Held.{held}
use Rattle.liquid_language.specs.Entries.{placed}
use Rattle.liquid_syntax.specs.Slots.{filled}
use Rattle.liquid_syntax.specs.Templates.{tree_of, partials_of, slots_of}
use Rattle.liquid_syntax.proofs.Held.{ascend_seen, placed_back}
use Rattle.liquid_engine.specs.Pages.{page_by}
use Rattle.liquid_site.specs.Contents.{all_pages, pages_from_scratch}
use Rattle.liquid_site.specs.PartViews.{site_parts_view}
use Rattle.liquid_site.specs.Parts.{by_name, trees_in}
use Rattle.liquid_site.specs.ShownPages.{AreShown}
use Rattle.liquid_site.specs.Steps.{saturated_sum}
use Rattle.liquid_site.specs.inside.Fresh.{selects, selected, all_placed, listed_pages}
use Rattle.liquid_site.specs.declared.selection.Selection.TheVariants.{All}
use Rattle.liquid_site.proofs.Applying.{placed_there}
use Rattle.liquid_site.proofs.Placing.{exchanged_pages, all_selected}
use Rattle.liquid_site.proofs.Shown.{same_length, shown_as, shown_all_placed}
use Rattle.liquid_site.proofs.parts.SiteParts.exchange_partial.Goals as goal

pub returns-in-Ok-clause-keeps : goal.returns-in-Ok-clause-keeps
returns-in-Ok-clause-keeps g c =
    let s = c.args.self.now in
    let n = c.args.name.now in
    let partials = partials_of c.exchange-before.new.self in
    let show = page_by s.setting partials (held s.«data») in
    let before = pages_from_scratch (site_parts_view s).contents in
    let fresh = all_pages show (selected (selects All) (trees_in s.templates)) in
    let pages = listed_pages c.in-Ok.fresh.items in
    shown_as (g.R.Rendering.shows c.args.rendering.now) (all_placed fresh before) (all_pages show (trees_in s.templates)) (all_placed pages (by_name s.pages)) (by_name c.replace_pages.new.pages)
    (exchanged_pages (site_parts_view s).contents partials (ascend_seen tree_of s.templates.entries c.rendered_pages-rendered.ensures.ascend))
    (sym c.replace_pages.ensures) (shown_all_placed (g.R.Rendering.shows c.args.rendering.now) fresh pages before (by_name s.pages) c.in-Ok.ensures.pages c.requires.shown)

pub exchange-requires : goal.exchange-requires
exchange-requires g c =
    subst (λ ps. IsSome (listed ps c.args.name.now)) (sym c.exchange-before.ensures.slot) (placed_there c.args.name.now (option_map tree_of c.args.held) (slots_of c.args.self.now.partials) c.requires.slot)

pub returns-in-Err-clause-keeps : goal.returns-in-Err-clause-keeps
returns-in-Err-clause-keeps g c =
    let s = c.args.self.now in
    let x = option_map tree_of c.args.held in
    let b = option_map tree_of c.exchange-before.result in
    let n = c.args.name.now in
    let back = c.exchange.ensures.slot ∙ ap (placed n b) c.exchange-before.ensures.slot ∙ placed_back n b x (slots_of s.partials) c.exchange-before.ensures.out in
    subst (λ ws. AreShown (g.R.Rendering.shows c.args.rendering.now) ws (by_name s.pages)) (ap (λ ps. all_pages (page_by s.setting (filled ps) (held s.«data»)) (trees_in s.templates)) (sym back)) c.requires.shown

pub returns-in-Ok-clause-counted : goal.returns-in-Ok-clause-counted
returns-in-Ok-clause-counted g c =
    let s = c.args.self.now in
    let n = c.args.name.now in
    let ts = trees_in s.templates in
    let fresh = all_pages (page_by s.setting (partials_of c.exchange-before.new.self) (held s.«data»)) (selected (selects All) ts) in
    let items : vec_len c.in-Ok.fresh ≡ length c.in-Ok.fresh.items = search rules in
    let as_many = sym (length-map c.in-Ok.fresh.items _) ∙ same_length (g.R.Rendering.shows c.args.rendering.now) fresh (listed_pages c.in-Ok.fresh.items) c.in-Ok.ensures.pages in
    c.saturating_add-self.ensures ∙ ap (saturated_sum s.rendered) (c.len.ensures ∙ items ∙ as_many ∙ length-map _ _ ∙ ap length (all_selected ts))

pub returns-in-Err-clause-unchanged : goal.returns-in-Err-clause-unchanged
returns-in-Err-clause-unchanged g c =
    let s = c.args.self.now in
    let x = option_map tree_of c.args.held in
    let b = option_map tree_of c.exchange-before.result in
    let n = c.args.name.now in
    let back = c.exchange.ensures.slot ∙ ap (placed n b) c.exchange-before.ensures.slot ∙ placed_back n b x (slots_of s.partials) c.exchange-before.ensures.out in
    λ i. record { setting = s.setting; pages = trees_in s.templates; partials = filled (back i); «data» = held s.«data» }
