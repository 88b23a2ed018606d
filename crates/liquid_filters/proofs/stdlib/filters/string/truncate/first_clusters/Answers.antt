use Rattle.std.proofs.Common.{◌++◌, true, sym, ap, ◌∙◌, arith}
use Rattle.std.proofs.lemmas.List.{append_cancel_right}
use Rattle.unicode_segmentation.specs.Grapheme.{graphemes}
use Rattle.liquid_filters.specs.Truncate.{first_clusters}
use Rattle.liquid_filters.proofs.Words.{clusters_turn, clusters_none, clusters_cut}
use Rattle.liquid_filters.proofs.stdlib.filters.string.truncate.first_clusters.Goals as goal

pub returns-in_default : goal.returns-in_default
returns-in_default c = clusters_none c.args.text.now _ c.loop-i._i c.args.count c.utf8.text c.loop-i-test.true c.in_default.ensures.steps.0 c.loop-i.invariant

pub loop-i-preserved : goal.loop-i-preserved
loop-i-preserved c = clusters_turn (graphemes true c.args.text.now) _ _ c.in-Some._cluster.now c.loop-i._i c.in-Some.ensures.steps c.loop-i.invariant

pub before-requires : goal.before-requires
before-requires c = (
  first_clusters c.args.count c.args.text.now,
  clusters_cut c.args.text.now _ c.loop-i._i c.args.count c.utf8.text (omega arith) c.loop-i.invariant ∙ ap (λ t. first_clusters c.args.count c.args.text.now ++ t) (sym c.as_str.ensures),
)

pub returns : goal.returns
returns c =
    append_cancel_right _ _ c.as_str.result.now
    (sym c.before-2.ensures ∙ clusters_cut c.args.text.now _ c.loop-i._i c.args.count c.utf8.text (omega arith) c.loop-i.invariant ∙ ap (λ t. first_clusters c.args.count c.args.text.now ++ t) (sym c.as_str.ensures))
