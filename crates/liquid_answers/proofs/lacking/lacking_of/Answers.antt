use Rattle.std.proofs.Common.{refl}
use Rattle.liquid_answers.specs.declared.lacking.Lacking.{Lacking}
use Rattle.liquid_answers.proofs.Listed.{lacking_listed}
use Rattle.liquid_answers.proofs.lacking.lacking_of.Goals as goal

pub returns-clause-lacking : goal.returns-clause-lacking
returns-clause-lacking c = λ table are some.
    let it : Lacking = record { calls = c.args.listed.calls; text = c.push_str.new.self } in
    lacking_listed table c.args.listed it are some refl c.in_ok-push_str.ensures.bytes
