use Rattle.std.proofs.Common.{rules, refl}
use Rattle.std.proofs.lemmas.Grind.{put_three}
use Rattle.liquid_core.proofs.spelled.write_bracketed_literal.Goals as goal

pub returns : goal.returns
returns g c = λ plain ok.
    let one = c.in_ok-write_str.ensures.writes plain (search rules) in
    let two = c.in_ok-write_literal.ensures one.plain (search rules) in
    let three = c.write_str-2.ensures.writes two.plain ok in
    put_three _ _ _ _ _ _ _ _ _ one two three refl
