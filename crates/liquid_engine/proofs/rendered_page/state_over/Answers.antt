use Rattle.std.proofs.Common.{ap, ◌∙◌}
use Rattle.liquid_core.specs.Held.{held}
use Rattle.liquid_core.specs.States.{Layers, with_missing}
use Rattle.liquid_engine.proofs.rendered_page.state_over.Goals as goal

pub returns-clause-layers : goal.returns-clause-layers
returns-clause-layers c =
    let over : Layers → Layers = λ l. record l { globals = held c.args.«data».now } in
    c.from_parts.ensures.layers ∙ ap over (c.into_parts-parts.ensures (c.set_missing.ensures.loops ∙ c.new-empty.ensures.loops) ∙ c.set_missing.ensures.set ∙ ap (with_missing c.args.missing) c.new-empty.ensures.layers)
