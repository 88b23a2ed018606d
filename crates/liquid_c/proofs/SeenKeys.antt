-- A key, and the pages that it stands for.
use Rattle.liquid_model.specs.Texts.{Text}
use Rattle.liquid_model.specs.UseViews.{uses_view}
use Rattle.liquid_seen_keys.specs.Keys.{IsKeyOf}
use Rattle.liquid_c.specs.Served.{UsesByName}
use Rattle.liquid_c.specs.SeenKeys.{IsSeenFor}
use Rattle.liquid_c.proofs.DataFor.{read_for}

pub seen_for : (uses : UsesByName) (source it : Text) → IsKeyOf (uses_view uses) source it → IsSeenFor uses source it
seen_for uses source it k = record {
  key = k;
  pages = (read_for uses k.whole k.seen k.alike).pages;
}
