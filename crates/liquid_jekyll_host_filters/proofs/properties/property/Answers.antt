use Rattle.std.proofs.Common.{arith, rules}
use Rattle.liquid_jekyll_host_filters.proofs.NamePaths.{last_step, step_on}
use Rattle.liquid_jekyll_host_filters.proofs.properties.property.Goals as goal

pub loop-first-preserved : goal.loop-first-preserved
loop-first-preserved c =
    let cut = c.in-Some.ensures.byte (omega arith) (λ w o f. f) in
    (search rules, step_on c.loop-first.rest.now c.in-Some.first.now c.in-Some.more.now _ _ _ cut.0 cut.1 cut.2 c.member-found.ensures c.loop-first.invariant.1)

pub returns : goal.returns
returns c = last_step c.loop-first.rest.now _ _ _ (c.in_default.ensures.byte (omega arith) (λ w o f. f)) c.member.ensures c.loop-first.invariant.1
