use Rattle.std.proofs.Common.{string_bytes, inl, inr, refl, ◌∙◌}
use Rattle.liquid_records.proofs.Named.{tried_step}
use Rattle.liquid_records.proofs.merge.put.Goals as goal

pub returns-in-Ok-clause-step : goal.returns-in-Ok-clause-step
returns-in-Ok-clause-step g c =
    tried_step c.args.number (string_bytes c.args.made.name) c.as_str.result.now c.in_ok-from_str.field-0 _ c.args.names.now c.insert.new.self
    c.in-None.ensures.value c.as_str.ensures.value (c.in_ok-from_str.ensures.ok ∙ c.as_str-2.ensures.value) c.in_ok-insert.ensures.updates (inl refl)

pub returns-clause-step : goal.returns-clause-step
returns-clause-step g c =
    tried_step c.args.number (string_bytes c.args.made.name) c.as_str.result.now c.in_ok-from_str.field-0 _ c.args.names.now c.insert.new.self
    c.in-None.ensures.value c.as_str.ensures.value (c.in_ok-from_str.ensures.ok ∙ c.as_str-2.ensures.value) c.in_ok-insert.ensures.updates (inr refl)
