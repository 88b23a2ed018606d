use Rattle.std.proofs.Common.{ap, ◌∙◌}
use Rattle.liquid_model.specs.Data.{put}
use Rattle.liquid_model.specs.View.{view, pairs_view}
use Rattle.liquid_core.proofs.DataChanges.{value_put}
use Rattle.liquid_site.proofs.data.set.Goals as goal

pub returns : goal.returns
returns c =
    let ps = pairs_view c.args.«data».entries in
    value_put c.args.name.now (view c.args.value) ps (pairs_view c.store.new.object.entries) (c.in_ok-store.ensures.stored ∙ ap (λ n. put n (view c.args.value) ps) c.in_ok-from_str.ensures.ok)
