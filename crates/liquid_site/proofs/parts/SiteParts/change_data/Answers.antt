use Rattle.std.proofs.Common.{◌≡◌, Bool, OnOk, length, subst, sym, ap, ◌∙◌}
use Rattle.liquid_core.specs.Held.{held}
use Rattle.liquid_evaluation.specs.Tree.{Nodes}
use Rattle.liquid_syntax.specs.Templates.{partials_of}
use Rattle.liquid_site.specs.Contents.{mentions_any}
use Rattle.liquid_site.specs.PartViews.{site_parts_view}
use Rattle.liquid_site.specs.Steps.{saturated_sum}
use Rattle.liquid_site.specs.inside.Fresh.{selected}
use Rattle.liquid_site.proofs.Untouched.{untouched_by_data}
use Rattle.liquid_site.proofs.parts.SiteParts.change_data.Goals as goal

pub exchange_data-requires-clause-untouched : goal.exchange_data-requires-clause-untouched
exchange_data-requires-clause-untouched g c = λ nodes h.
    let s = c.args.self.now in
    let seen = c.by_names-selection.ensures ∙ ap (mentions_any (partials_of s.partials)) c.in_ok-names.ensures in
    untouched_by_data (site_parts_view s).contents (held c.args.«data») nodes (sym (ap (λ (test : Nodes → Bool). test nodes) seen) ∙ h)

pub returns-clause-counted : goal.returns-clause-counted
returns-clause-counted g c =
    let s = c.args.self.now in
    let pages = (site_parts_view s).contents.pages in
    let seen = c.by_names-selection.ensures ∙ ap (mentions_any (partials_of s.partials)) c.in_ok-names.ensures in
    subst (λ (test : Nodes → Bool). OnOk c.exchange_data.result ((site_parts_view c.exchange_data.new.self).rendered ≡ saturated_sum s.rendered (length (selected test pages)))) seen c.exchange_data.ensures.counted
