use Rattle.std.proofs.Common.{◌≡◌, true, false, cond, is_some, Err, string_bytes, sym, ap, ◌∙◌}
use Rattle.liquid_model.specs.Maps.{listed}
use Rattle.liquid_syntax.proofs.Held.{seen_has}
use Rattle.liquid_site_build.specs.Chains.{chain_fault_at, meets_itself, no_layout}
use Rattle.liquid_site_build.specs.SourceViews.{site_text_view, site_texts_view}
use Rattle.liquid_site_build.proofs.chain.broken.Goals as goal

pub returns-then-contains_key : goal.returns-then-contains_key
returns-then-contains_key c =
    let name = string_bytes c.in_ok-name.name in
    let there : is_some (listed (site_texts_view c.args.layouts.now) name) ≡ true =
    ap (λ n. is_some (listed (site_texts_view c.args.layouts.now) n)) (sym c.as_str.ensures.value) ∙ seen_has site_text_view c.as_str.result.now c.args.layouts.now.entries ∙ sym c.contains_key.ensures ∙ c.if-contains_key.true in
    ap (λ b. Err (cond b (meets_itself name) (no_layout name))) (sym there) ∙ ap (λ n. Err (chain_fault_at (site_texts_view c.args.layouts.now) n)) c.in_ok-name.ensures.ok

pub returns-else-contains_key : goal.returns-else-contains_key
returns-else-contains_key c =
    let name = string_bytes c.in_ok-name.name in
    let absent : is_some (listed (site_texts_view c.args.layouts.now) name) ≡ false =
    ap (λ n. is_some (listed (site_texts_view c.args.layouts.now) n)) (sym c.as_str.ensures.value) ∙ seen_has site_text_view c.as_str.result.now c.args.layouts.now.entries ∙ sym c.contains_key.ensures ∙ c.if-contains_key.false in
    ap (λ b. Err (cond b (meets_itself name) (no_layout name))) (sym absent) ∙ ap (λ n. Err (chain_fault_at (site_texts_view c.args.layouts.now) n)) c.in_ok-name.ensures.ok
