use Rattle.std.specs.Prelude.{T}
use Rattle.std.proofs.Common.{◌≡◌, not, [], ◌∷◌, sym, subst, rules}
use Rattle.liquid_evaluation.specs.Names.{mentioned}
use Rattle.liquid_syntax.specs.NameSets.{mentioned_in_set}
use Rattle.liquid_uses.specs.inside.Readings.{targets_of}
use Rattle.liquid_uses.specs.inside.Scopes.{visible_to}
use Rattle.liquid_uses.proofs.PartialReads.{AllSeen, none_left, one_seen}
use Rattle.liquid_uses.proofs.scopes.Reader.sees_all.Goals as goal

pub loop-name-preserved : goal.loop-name-preserved
loop-name-preserved c = λ h.
    let V = visible_to c.args.self.now in
    let bound = targets_of c.args.targets in
    let k = c.in-Some.name.now in
    let rest : c.loop-name.name-iterator ≡ k ∷ c.next.new.self = search rules in
    c.loop-name.invariant (subst (AllSeen V bound) (sym rest) (one_seen V bound k c.next.new.self
    (subst (λ t. T (not (mentioned bound t)) → V t) c.as_str.ensures.value (c.sees_one.ensures c.if-not-sees_one.false)) h))

pub returns : goal.returns
unfolding mentioned_in_set
returns c = λ e q h.
    let V = visible_to c.args.self.now in
    let bound = targets_of c.args.targets in
    let none : c.loop-name.name-iterator ≡ [] = search rules in
    let all : c.into_iter-name-iterator.result ≡ c.args.names.now.keys = search rules in
    subst (AllSeen V bound) all (c.loop-name.invariant (subst (AllSeen V bound) (sym none) (none_left V bound))) q h
