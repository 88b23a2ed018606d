use Rattle.liquid_warnings.proofs.AddedRemarks.{adds_then}
use Rattle.liquid_warnings.proofs.whole.Whole.add_name_warnings.Goals as goal

pub returns : goal.returns
returns c = adds_then _ _ _ _ _ c.in_ok-add_unknown.ensures (adds_then _ _ _ _ _ c.in_ok-add_unused_names.ensures c.in_ok-add_escaped_twice.ensures)
