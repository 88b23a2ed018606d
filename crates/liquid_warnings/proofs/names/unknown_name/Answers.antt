use Rattle.liquid_warnings.proofs.AddedRemarks.{warns}
use Rattle.std.proofs.Common.{option_map, codes}
use Rattle.liquid_warnings.proofs.names.unknown_name.Goals as goal

pub returns : goal.returns
returns c = (c.args.name.now, option_map (λ n. n.now) c.suggestion_for-similar.result, warns _ c.args.position (codes "UnknownName") _ _ c.warning.ensures c.in_ok-message.ensures)
