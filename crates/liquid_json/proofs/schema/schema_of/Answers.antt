use Rattle.std.proofs.Common.{◌++◌, codes, ap, ◌∙◌}
use Rattle.json.specs.Layout.{pretty}
use Rattle.liquid_model.specs.UseViews.{members_view}
use Rattle.liquid_json.specs.Schemas.{properties_tokens}
use Rattle.liquid_json.proofs.Appended.{document}
use Rattle.liquid_json.proofs.schema.schema_of.Goals as goal

pub returns : goal.returns
returns c =
    c.in_ok-push_str.ensures.bytes
    ∙ ap (λ t. t ++ codes "\n") (c.text_of_bytes-text.ensures ∙ c.into_inner.ensures.layout
    ∙ ap pretty (document _ _ _ _ _ _ (properties_tokens (members_view c.args.uses.now.entries)) c.new-schema.ensures c.in_ok-token.ensures.ok c.in_ok-put_text.ensures c.in_ok-put_text-2.ensures c.in_ok-put_properties.ensures c.in_ok-token-2.ensures.ok))
