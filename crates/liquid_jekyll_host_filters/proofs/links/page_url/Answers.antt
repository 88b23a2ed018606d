use Rattle.std.proofs.Common.{◌≡◌, ◌∙◌, ap, map, rules, subst}
use Rattle.liquid_model.specs.Answer.{Answers}
use Rattle.liquid_model.specs.Data.{text_of}
use Rattle.liquid_model.specs.Texts.{Text}
use Rattle.liquid_model.specs.View.{view}
use Rattle.liquid_jekyll_host_filters.specs.Highlight.{ruby_stripped}
use Rattle.liquid_jekyll_host_filters.specs.Links.{first_in, is_page_at, led_to}
use Rattle.liquid_jekyll_host_filters.proofs.links.page_url.Goals as goal

pub returns : goal.returns
returns c =
    let given : c.as_str.result.now ≡ text_of (view c.args.markup.now) = search rules in
    let path = c.as_bytes-path.ensures.value ∙ c.ruby_stripped.ensures ∙ ap ruby_stripped given in
    subst (λ o. Answers view c.url_of_found.result (led_to c.args.base.now o))
    (c.first_in-found.ensures ∙ ap (λ (p : Text). first_in (is_page_at p) (map view c.args.lists.now)) path) c.url_of_found.ensures
