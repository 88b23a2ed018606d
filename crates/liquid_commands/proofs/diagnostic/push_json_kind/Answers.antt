use Rattle.liquid_commands.proofs.Pushed.{three}
use Rattle.liquid_commands.proofs.diagnostic.push_json_kind.Goals as goal

pub returns : goal.returns
returns c = three _ _ _ _ _ _ _ _ c.in_ok-push_str.ensures.bytes c.in_ok-push_str-2.ensures.bytes c.in_ok-push_str-3.ensures.bytes c.severity.ensures
