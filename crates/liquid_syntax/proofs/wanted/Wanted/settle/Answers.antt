use Rattle.std.proofs.Common.{subst}
use Rattle.liquid_syntax.specs.Reached.{AllFoundOrAsked, had}
use Rattle.liquid_syntax.specs.Templates.{partials_of}
use Rattle.liquid_syntax.proofs.Wanting.{spreads_settled}
use Rattle.liquid_syntax.specs.declared.wanted.Wanted.{Wanted}
use Rattle.liquid_syntax.proofs.wanted.Wanted.settle.Goals as goal

pub returns-clause-spreads : goal.returns-clause-spreads
returns-clause-spreads c =
    let v : Wanted = record { any = c.args.self.now.any; asked = c.add_all_liquid.new.self; fallbacks = c.clear.new.self } in
    let found = had (partials_of c.args.partials.now) in
    spreads_settled c.args.self.now v found (λ h. h) c.in_ok-add_all_liquid.ensures.keeps (subst (AllFoundOrAsked v.asked found) c.as_slice.ensures.value c.in_ok-add_all_liquid.ensures.known)
