use Rattle.std.proofs.Common.{◌∷◌, string_bytes, refl}
use Rattle.liquid_evaluation.specs.Names.{source_names}
use Rattle.liquid_evaluation.specs.SourceView.{source_view}
use Rattle.liquid_evaluation.proofs.Telling.{ended, went_on}
use Rattle.liquid_syntax.specs.inside.Mentions.{head_names}
use Rattle.liquid_syntax.proofs.visit_nodes.visit_head.Goals as goal

pub returns-then-visit : goal.returns-then-visit
unfolding head_names
returns-then-visit g c =
    let rest = string_bytes c.args.variable.now ∷ source_names (source_view c.args.source.now) in
    ended g.met.V.NameVisitor.laws _ _ _ rest _ _ _ c.visit.ensures c.if-visit.true c.if-visit.true refl

pub returns-else-visit : goal.returns-else-visit
unfolding head_names
returns-else-visit g c = went_on g.met.V.NameVisitor.laws _ _ _ _ _ _ _ _ c.visit.ensures c.if-visit.false c.visit_variable.ensures refl
