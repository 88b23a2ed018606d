use Rattle.std.proofs.Common.{refl}
use Rattle.liquid_core.specs.Held.{held}
use Rattle.liquid_site.proofs.Differences.{all_differing}
use Rattle.liquid_site.proofs.differing.differing_names.Goals as goal

pub returns : goal.returns
returns c =
    let d = c.args.«data» in
    all_differing d.old.now.entries d.new.now.entries c.new-names.result c.add_differing.new.names c.add_differing-2.new.names (held d.old.now) (held d.new.now) refl refl c.new-names.ensures.empty c.in_ok-add_differing.ensures c.in_ok-add_differing-2.ensures
