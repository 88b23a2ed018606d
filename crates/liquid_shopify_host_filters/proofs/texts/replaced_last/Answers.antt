use Rattle.liquid_shopify_host_filters.proofs.Lasts.{last_found, last_none}
use Rattle.liquid_shopify_host_filters.proofs.texts.replaced_last.Goals as goal

pub returns-in_ok-format-in-Some : goal.returns-in_ok-format-in-Some
returns-in_ok-format-in-Some c =
    let h = c.in-Some.ensures.cases in
    last_found c.args.search.now c.args.replacement.now c.args.text.now _ _ _ h.0 h.1 h.2 h.3 h.4 h.5 h.7
    c.in_ok-format-in-Some.ensures.ok

pub returns-in_ok-from_str-in-None : goal.returns-in_ok-from_str-in-None
returns-in_ok-from_str-in-None c =
    last_none c.args.search.now c.args.replacement.now c.args.text.now _ c.in-None.ensures.cases
    c.in_ok-from_str-in-None.ensures.ok
