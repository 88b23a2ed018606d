use Rattle.std.proofs.Common.{◌≡◌, true, rules}
use Rattle.liquid_uses.specs.inside.Chains.{takes}
use Rattle.liquid_uses.proofs.Chains.{never, takes_member}
use Rattle.liquid_uses.proofs.place_pairs.Pair.member.Goals as goal

pub returns-then-not-allows_key : goal.returns-then-not-allows_key
returns-then-not-allows_key c = λ u h. never (takes c.refused.result u) (c.refused.ensures u) h _

pub returns : goal.returns
returns c = λ u h.
    let allowed : c.allows_key.result ≡ true = search rules in
    takes_member c.args.self c.member-first.result c.member-second.result u c.args.key.now (c.allows_key.ensures allowed) (c.member-first.ensures u) (c.member-second.ensures u) h
