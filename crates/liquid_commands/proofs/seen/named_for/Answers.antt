use Rattle.std.proofs.Common.{◌∙◌, sym}
use Rattle.liquid_model.specs.UseViews.{use_view, uses_view}
use Rattle.liquid_model.proofs.UseViews.{view-Nothing}
use Rattle.liquid_json.specs.Json.{data_of}
use Rattle.liquid_commands.proofs.Standing.{named_answers}
use Rattle.liquid_commands.proofs.seen.named_for.Goals as goal

pub returns-in-Some : goal.returns-in-Some
returns-in-Some c = named_answers (uses_view c.args.uses.now) (use_view c.in-Some.asked.now) c.args.name.now c.map_for.result (data_of c.args.text.now) c.in-Some.ensures c.map_for.ensures

pub returns-in-None : goal.returns-in-None
returns-in-None c = named_answers (uses_view c.args.uses.now) _ c.args.name.now c.map_for-in-None.result (data_of c.args.text.now) (c.in-None.ensures ∙ sym view-Nothing) c.map_for-in-None.ensures
