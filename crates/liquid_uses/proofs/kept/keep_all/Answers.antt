use Rattle.std.proofs.Common.{◌≡◌, true, [], ◌∷◌, sym, subst, rules}
use Rattle.liquid_model.specs.Texts.{Text}
use Rattle.liquid_model.specs.Uses.{includes}
use Rattle.liquid_model.specs.UseViews.{uses_view}
use Rattle.liquid_syntax.specs.NameSets.{mentioned_in_set}
use Rattle.liquid_uses.proofs.PartialReads.{AllSeen, none_left, one_seen}
use Rattle.liquid_uses.proofs.kept.keep_all.Goals as goal

pub loop-name-preserved : goal.loop-name-preserved
loop-name-preserved c = λ h.
    let V = λ (q : Text). includes (uses_view c.args.kept.now q) (uses_view c.args.uses.now q) ≡ true in
    let k = c.in-Some.name.now in
    let rest : c.loop-name.name-iterator ≡ k ∷ c.next.new.self = search rules in
    c.loop-name.invariant (subst (AllSeen V []) (sym rest) (one_seen V [] k c.next.new.self (λ t. subst V c.as_str.ensures.value (c.is_kept.ensures c.if-not-is_kept.false)) h))

pub returns : goal.returns
unfolding mentioned_in_set
returns c = λ e q h.
    let V = λ (q : Text). includes (uses_view c.args.kept.now q) (uses_view c.args.uses.now q) ≡ true in
    let none : c.loop-name.name-iterator ≡ [] = search rules in
    let all : c.into_iter-name-iterator.result ≡ c.args.names.now.keys = search rules in
    subst (AllSeen V []) all (c.loop-name.invariant (subst (AllSeen V []) (sym none) (none_left V []))) q h
