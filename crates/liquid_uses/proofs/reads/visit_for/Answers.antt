use Rattle.std.proofs.Common.{◌++◌, refl}
use Rattle.liquid_evaluation.specs.Names.{source_names, window_names}
use Rattle.liquid_evaluation.specs.SourceView.{source_view}
use Rattle.liquid_evaluation.proofs.Telling.{ended, went_on}
use Rattle.liquid_syntax.specs.Flats.{window_view}
use Rattle.liquid_uses.proofs.reads.visit_for.Goals as goal

pub returns-then-visit : goal.returns-then-visit
returns-then-visit g c =
    let rest = source_names (source_view c.args.head.now.source) ++ window_names (window_view c.args.head.now.window) in
    ended g.met.V.NameVisitor.laws _ _ _ rest _ _ _ c.visit.ensures c.if-visit.true c.if-visit.true refl

pub returns-else-visit : goal.returns-else-visit
returns-else-visit g c = went_on g.met.V.NameVisitor.laws _ _ _ _ _ _ _ _ c.visit.ensures c.if-visit.false c.visit_head.ensures refl
