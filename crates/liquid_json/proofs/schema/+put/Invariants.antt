use Rattle.std.proofs.Common.{◌≡◌, ◌++◌}
use Rattle.liquid_model.specs.UseViews.{members_view}
use Rattle.liquid_json.specs.Schemas.{property_tokens}
use Rattle.liquid_json.proofs.schema.+put.Given as goal

-- the tokens that are there and those of what is left are all tokens
abbrev pub invariant-put_properties-loop-key : goal.invariant-put_properties-loop-key
invariant-put_properties-loop-key l =
    l.initial.schema ++ property_tokens (members_view l.initial.key-iterator)
    ≡ l.schema ++ property_tokens (members_view l.key-iterator)
