use Rattle.std.proofs.Common.{◌≡◌, ◌++◌, ◌∙◌, ap, ap₂, rules, string_bytes}
use Rattle.percent_encoding.specs.Percent.{percent_encode}
use Rattle.liquid_jekyll_host_filters.proofs.UrlTexts.{mark_ascii, url_end, url_turn}
use Rattle.liquid_jekyll_host_filters.proofs.percent.push_url.Goals as goal

pub loop-before-preserved : goal.loop-before-preserved
loop-before-preserved c =
    let how = c.args.how in
    let is = c.mark.ensures in
    let cut = c.in-Some.ensures.byte (mark_ascii how c.mark.result is) (λ w o f. f) in
    let mid = c.in_ok-append_to.ensures.ok ∙ ap (λ t. string_bytes c.loop-before.out ++ t) (c.percent_encode.ensures.text ∙ ap₂ percent_encode c.set.ensures c.as_bytes.ensures.value) in
    let next = c.in_ok-push_str.ensures.bytes ∙ ap (λ t. string_bytes c.append_to.new.out ++ t) c.in_place.ensures in
    (search rules, url_turn how c.mark.result is c.loop-before.rest.now c.in-Some.before.now c.in-Some.after.now _ _ _ _ cut.0 cut.1 cut.2 mid next c.loop-before.invariant.1)

pub returns : goal.returns
returns c =
    let how = c.args.how in
    let is = c.mark.ensures in
    let none = c.in_default.ensures.byte (mark_ascii how c.mark.result is) (λ w o f. f) in
    url_end how c.mark.result is c.loop-before.rest.now (string_bytes c.loop-before.out) _ _ none (c.in_ok-append_to-2.ensures.ok ∙ ap (λ t. string_bytes c.loop-before.out ++ t) (c.percent_encode-2.ensures.text ∙ ap₂ percent_encode c.set-2.ensures c.as_bytes-2.ensures.value)) c.loop-before.invariant.1
