use Rattle.std.proofs.Common.{◌≡◌, ◌++◌, length, map, string_bytes}
use Rattle.std.specs.Vec.Iter.{into_iter_items, into_iter_len}
use Rattle.liquid_language.specs.Entries.{seen}
use Rattle.liquid_model.specs.Maps.{listed}
use Rattle.liquid_site_build.specs.OutcomeViews.{output_view}
use Rattle.liquid_site_build.specs.Written.{placed_by}
use Rattle.liquid_site_build.proofs.place.placed_outputs.Given as goal

abbrev pub invariant-loop-output : goal.invariant-loop-output
invariant-loop-output l =
    let f = placed_by (listed (seen string_bytes l.owners.entries)) in
    record {
      counted : into_iter_len l.output-iterator ≡ length (into_iter_items l.output-iterator);
      placed : map output_view l.placed.items ++ map f (map output_view (into_iter_items l.output-iterator)) ≡ map f (map output_view (into_iter_items l.initial.output-iterator));
    }
