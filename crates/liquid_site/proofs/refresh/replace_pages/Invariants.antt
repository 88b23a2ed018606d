use Rattle.std.proofs.Common.{◌≡◌, length}
use Rattle.std.specs.Vec.Iter.{into_iter_items, into_iter_len}
use Rattle.liquid_site.specs.Parts.{by_name}
use Rattle.liquid_site.specs.inside.Fresh.{all_placed, listed_pages}
use Rattle.liquid_site.proofs.refresh.replace_pages.Given as goal

-- what is left makes of the pages so far what all make of the pages at first
abbrev pub invariant-loop-name : goal.invariant-loop-name
invariant-loop-name g l = record {
  counted : into_iter_len l.name-iterator ≡ length (into_iter_items l.name-iterator);
  whole : all_placed (listed_pages (into_iter_items l.name-iterator)) (by_name l.pages) ≡ all_placed (listed_pages l.fn.fresh.items) (by_name l.fn.pages);
}
