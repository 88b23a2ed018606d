use Rattle.std.proofs.Common.{◌≡◌, [], ◌∷◌, ◌++◌, string_bytes, sym, ap}
use Rattle.liquid_evaluation.specs.Names.{source_names}
use Rattle.liquid_evaluation.specs.SourceView.{source_view}
use Rattle.liquid_evaluation.proofs.Telling.{ended, went_on}
use Rattle.liquid_syntax.proofs.visit_nodes.visit_variable.Goals as goal

pub returns-then-visit : goal.returns-then-visit
returns-then-visit g c =
    let rest = source_names (source_view c.args.source.now) in
    let e : string_bytes c.args.variable.now ∷ rest ≡ (c.as_str.result.now ∷ []) ++ rest = ap (λ n. n ∷ rest) (sym c.as_str.ensures.value) in
    ended g.met.V.NameVisitor.laws _ _ _ rest _ _ _ c.visit.ensures c.if-visit.true c.if-visit.true e

pub returns-else-visit : goal.returns-else-visit
returns-else-visit g c =
    let rest = source_names (source_view c.args.source.now) in
    let e : string_bytes c.args.variable.now ∷ rest ≡ (c.as_str.result.now ∷ []) ++ rest = ap (λ n. n ∷ rest) (sym c.as_str.ensures.value) in
    went_on g.met.V.NameVisitor.laws _ _ _ _ _ _ _ _ c.visit.ensures c.if-visit.false c.visit_source.ensures e
