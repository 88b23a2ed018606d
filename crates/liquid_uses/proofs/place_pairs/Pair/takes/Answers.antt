use Rattle.std.proofs.Common.{◌≡◌, true, sym, ◌∙◌, rules}
use Rattle.liquid_model.specs.UseViews.{use_view}
use Rattle.liquid_uses.proofs.Chains.{takes_all}
use Rattle.liquid_uses.proofs.place_pairs.Pair.takes.Goals as goal

pub returns-then-first : goal.returns-then-first
returns-then-first c = λ h.
    let allowed : c.allows.result ≡ true = search rules in
    takes_all c.args.self (use_view c.args.asked.now) (sym c.includes-first.ensures ∙ c.if-first.true) (sym c.includes-second.ensures ∙ h) (c.allows.ensures allowed)
