use Rattle.std.proofs.Common.{◌≡◌, rules}
use Rattle.liquid_model.specs.Data.{number, text_of}
use Rattle.liquid_engine.proofs.Pieces.{writes_as}
use Rattle.liquid_engine.proofs.push_value.push_number.Goals as goal

pub returns-clause-writes : goal.returns-clause-writes
returns-clause-writes g c =
    let said : c.format.result.now ≡ text_of (number c.args.n) = search rules in
    writes_as c.push_text.result _ _ _ _ said c.push_text.ensures.writes
