use Rattle.std.proofs.Common.{◌≡◌, cond, [], ◌∷◌, sym, ap, ◌∙◌, rules}
use Rattle.liquid_model.specs.Uses.{everything, nothing}
use Rattle.liquid_syntax.specs.NameSets.{mentioned_in_set}
use Rattle.liquid_uses.proofs.WholeNames.{with_left, name_put}
use Rattle.liquid_uses.proofs.whole_names.whole_names.Goals as goal

pub loop-name-preserved : goal.loop-name-preserved
loop-name-preserved c = λ q.
    let k = c.in-Some.name in
    let rest : c.loop-name.name-iterator ≡ k ∷ c.next.new.self = search rules in
    ap (with_left q c.next.new.self) c.in_ok-insert.ensures.entries ∙ name_put q k c.next.new.self c.loop-name.uses.entries
    ∙ ap (λ ks. with_left q ks c.loop-name.uses.entries) (sym rest) ∙ c.loop-name.invariant q

pub returns : goal.returns
unfolding mentioned_in_set
returns c = λ q.
    let none : c.loop-name.name-iterator ≡ [] = search rules in
    let all : c.into_iter-name-iterator.result ≡ c.args.names.keys = search rules in
    ap (λ ks. with_left q ks c.loop-name.uses.entries) (sym none) ∙ c.loop-name.invariant q
    ∙ (λ i. with_left q (all i) (c.new-uses.ensures.empty i))
