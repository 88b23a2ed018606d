use Rattle.std.proofs.Common.{codes, string_bytes}
use Rattle.liquid_warnings.specs.Messages.{escaped_twice_message}
use Rattle.liquid_warnings.specs.Remarks.{remark_view}
use Rattle.liquid_warnings.proofs.AddedRemarks.{warns}
use Rattle.liquid_warnings.proofs.escaped_twice.escaped_twice.Goals as goal

pub returns : goal.returns
returns c =
    let name = c.args.name.now in
    (name, warns (remark_view c.warning.result) c.args.position (codes "EscapedTwice") (string_bytes c.in_ok-message.message) (escaped_twice_message name) c.warning.ensures c.in_ok-message.ensures)
