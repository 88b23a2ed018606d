use Rattle.std.proofs.Common.{◌≡◌, ◌++◌, drop, map}
use Rattle.liquid_site_build.specs.OutcomeViews.{document_outcome_view, output_view}
use Rattle.liquid_site_build.specs.Written.{document_output}
use Rattle.liquid_site_build.proofs.place.all_outputs.Given as goal

abbrev pub invariant-loop-outcome : goal.invariant-loop-outcome
invariant-loop-outcome l =
    map output_view l.outputs.items ++ map document_output (map document_outcome_view (drop l.outcome-index l.outcome-items)) ≡ map output_view l.initial.outputs.items ++ map document_output (map document_outcome_view l.outcome-items)
