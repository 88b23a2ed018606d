use Rattle.std.proofs.Common.{◌≡◌, true, subst}
use Rattle.liquid_syntax.specs.Reached.{found_or_asked, had}
use Rattle.liquid_syntax.specs.Templates.{partials_of}
use Rattle.liquid_syntax.proofs.Wanting.{all_liquid, liquid_next}
use Rattle.liquid_syntax.proofs.wanted.Asked.add_all_liquid.Goals as goal

pub loop-name-preserved : goal.loop-name-preserved
loop-name-preserved c = (
  λ name h. c.add_liquid.ensures.keeps name (c.loop-name.invariant.0 name h),
  liquid_next c.loop-name.self c.add_liquid.new.self (had (partials_of c.args.partials.now)) c.args.names.now c.loop-name.name-index c.name-item.result c.add_liquid.ensures.keeps c.loop-name.invariant.1 (subst (λ t. found_or_asked c.add_liquid.new.self (had (partials_of c.args.partials.now)) t ≡ true) c.as_str.ensures.value c.in_ok-add_liquid.ensures.known) c.name-item.is c.loop-name-test.true,
)

pub returns-clause-known : goal.returns-clause-known
returns-clause-known c = all_liquid c.loop-name.self (had (partials_of c.args.partials.now)) c.args.names.now c.loop-name.name-index c.loop-name.invariant.1 c.loop-name-test.false
