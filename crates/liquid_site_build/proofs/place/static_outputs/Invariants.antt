use Rattle.std.proofs.Common.{◌≡◌, ◌++◌, map, string_bytes}
use Rattle.liquid_site_build.specs.OutcomeViews.{output_view}
use Rattle.liquid_site_build.specs.Written.{static_output}
use Rattle.liquid_site_build.proofs.place.static_outputs.Given as goal

abbrev pub invariant-loop-path : goal.invariant-loop-path
invariant-loop-path l =
    map output_view l.outputs.items ++ map static_output (map string_bytes l.path-iterator) ≡ map static_output (map string_bytes l.sources.statics.keys)
