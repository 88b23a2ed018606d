use Rattle.std.proofs.Common.{subst, sym}
use Rattle.liquid_model.specs.UseViews.{uses_view}
use Rattle.liquid_model.specs.View.{pairs_view}
use Rattle.liquid_json.specs.Asked.{IsAlikeData}
use Rattle.liquid_json.specs.Json.{data_of}
use Rattle.liquid_commands.proofs.Standing.{ReadData, members_answer}
use Rattle.liquid_commands.proofs.seen.members_for.Goals as goal

pub returns-in-Ok : goal.returns-in-Ok
returns-in-Ok c =
    let U = uses_view c.args.uses.now in
    members_answer U c.args.text.now c.in_order.result.entries c.in_order.ensures.ordered
    (subst (λ (m : ReadData). IsAlikeData U (data_of c.args.text.now) (pairs_view m.entries)) (sym c.in_order.ensures.same) c.in-Ok.ensures.alike)
