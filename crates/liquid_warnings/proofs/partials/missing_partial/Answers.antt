use Rattle.liquid_warnings.proofs.AddedRemarks.{warns}
use Rattle.std.proofs.Common.{option_map, codes}
use Rattle.liquid_warnings.proofs.partials.missing_partial.Goals as goal

pub returns : goal.returns
returns c = (_, option_map (λ n. n.now) c.name_of-similar.result, warns _ c.args.call.now.position (codes "MissingPartial") _ _ c.warning.ensures c.in_ok-message.ensures)
