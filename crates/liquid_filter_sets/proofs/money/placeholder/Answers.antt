use Rattle.std.proofs.Common.{◌∙◌, ap, codes}
use Rattle.liquid_filter_sets.proofs.Cuts.{closes_by, closes_no_name, closes_nowhere, cut_at_first}
use Rattle.liquid_shopify_host_filters.specs.Styles.{style_named}
use Rattle.liquid_filter_sets.proofs.money.placeholder.Goals as goal

pub returns-in-Some-named : goal.returns-in-Some-named
returns-in-Some-named c =
    closes_by _ c.in-Some.cut.0.now _ _ (cut_at_first (codes "}}") c.args.rest.now c.in-Some.cut c.in-Some.ensures.cases)
    (c.in-Some-named.ensures ∙ ap style_named c.trim.ensures.trim)

pub returns-in-None-named : goal.returns-in-None-named
returns-in-None-named c =
    closes_no_name c.args.rest.now c.in-Some.cut.0.now c.in-Some.cut.1.now (cut_at_first (codes "}}") c.args.rest.now c.in-Some.cut c.in-Some.ensures.cases)
    (c.in-None-named.ensures ∙ ap style_named c.trim.ensures.trim)

pub returns-in-None : goal.returns-in-None
returns-in-None c = closes_nowhere c.args.rest.now c.in-None.ensures.cases
