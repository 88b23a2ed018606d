use Rattle.std.proofs.Common.{option_map, codes}
use Rattle.liquid_warnings.proofs.AddedRemarks.{warns}
use Rattle.liquid_warnings.proofs.passing.unused_pair.Goals as goal

pub returns : goal.returns
returns c = (c.args.name.now, option_map (λ n. n.now) c.name_of-similar.result, warns _ c.args.position (codes "UnusedPair") _ _ c.warning.ensures c.in_ok-message.ensures)
