use Rattle.std.proofs.Common.{◌∙◌, ◌++◌, sym, ap}
use Rattle.std.specs.Char.{encode_utf8}
use Rattle.liquid_filters.proofs.Characters.{capitalized_past}
use Rattle.liquid_filters.proofs.stdlib.filters.string.case.capitalized.Goals as goal

pub returns-in_ok-push_str-in-Some : goal.returns-in_ok-push_str-in-Some
returns-in_ok-push_str-in-Some c =
    c.in_ok-push_str-in-Some.ensures.bytes
    ∙ ap (λ t. t ++ c.as_str.result.now) (c.in_ok-push-in-Some.ensures.bytes ∙ ap (λ t. t ++ encode_utf8 c.to_ascii_uppercase.result) c.in_ok-out.ensures.bytes ∙ ap encode_utf8 c.to_ascii_uppercase.ensures.value)
    ∙ capitalized_past c.args.text.now c.as_str.result.now c.in-Some.first c.utf8.text (sym c.chars-rest.ensures.rest ∙ c.in-Some.ensures.steps.0 ∙ ap (λ t. encode_utf8 c.in-Some.first ++ t) (sym c.as_str.ensures))
