use Rattle.std.proofs.Common.{◌≡◌, [], ◌∷◌, ◌++◌, string_bytes, sym, ap}
use Rattle.liquid_evaluation.specs.ChainView.{chain_view}
use Rattle.liquid_evaluation.specs.Names.{chain_names}
use Rattle.liquid_evaluation.proofs.Telling.{ended, went_on}
use Rattle.liquid_syntax.proofs.visit_nodes.visit_assign.Goals as goal

pub returns-then-visit : goal.returns-then-visit
returns-then-visit g c =
    let rest = chain_names (chain_view c.args.chain.now) in
    let e : string_bytes c.args.name.now ∷ rest ≡ (c.as_str.result.now ∷ []) ++ rest = ap (λ n. n ∷ rest) (sym c.as_str.ensures.value) in
    ended g.met.V.NameVisitor.laws _ _ _ rest _ _ _ c.visit.ensures c.if-visit.true c.if-visit.true e

pub returns-else-visit : goal.returns-else-visit
returns-else-visit g c =
    let rest = chain_names (chain_view c.args.chain.now) in
    let e : string_bytes c.args.name.now ∷ rest ≡ (c.as_str.result.now ∷ []) ++ rest = ap (λ n. n ∷ rest) (sym c.as_str.ensures.value) in
    went_on g.met.V.NameVisitor.laws _ _ _ _ _ _ _ _ c.visit.ensures c.if-visit.false c.visit_chain.ensures e
