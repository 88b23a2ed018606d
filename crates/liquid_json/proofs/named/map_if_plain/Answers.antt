use Rattle.std.proofs.Common.{ap, ◌∙◌}
use Rattle.liquid_model.specs.Uses.{parts, uncounted}
use Rattle.liquid_model.specs.UseViews.{members_view, turns_view, use_view}
use Rattle.liquid_model.proofs.UseViews.{view-Nothing, view-Parts}
use Rattle.liquid_json.specs.Json.{data_of}
use Rattle.liquid_json.proofs.MapsAlike.{no_use, same_use}
use Rattle.liquid_json.proofs.named.map_if_plain.Goals as goal

pub returns-in-Nothing-clause-alike : goal.returns-in-Nothing-clause-alike
returns-in-Nothing-clause-alike c = no_use (use_view c.args.asked.now) (parts (members_view c.new-none.result.entries) uncounted) (data_of c.args.text.now) c.members_if_plain.result (ap use_view c.in-Nothing.is ∙ view-Nothing) c.members_if_plain.ensures.alike

pub returns-in-Parts-clause-alike : goal.returns-in-Parts-clause-alike
returns-in-Parts-clause-alike c =
    same_use (use_view c.args.asked.now) (parts (members_view c.in-Parts.members.entries) (turns_view c.in-Parts.items)) (data_of c.args.text.now) c.parts_if_plain.result
    (ap use_view c.in-Parts.is ∙ view-Parts c.in-Parts.members c.in-Parts.items) c.parts_if_plain.ensures.alike
