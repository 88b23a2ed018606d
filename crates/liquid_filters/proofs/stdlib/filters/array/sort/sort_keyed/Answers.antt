use Rattle.std.proofs.Common.{rules}
use Rattle.std.proofs.lemmas.List.Sorted.{answers_always}
use Rattle.liquid_filters.specs.Keyed.{keyed_below}
use Rattle.liquid_filters.proofs.Keys.{keyed_order}
use Rattle.liquid_filters.proofs.Sorts.{sort_is}
use Rattle.liquid_filters.proofs.stdlib.filters.array.sort.sort_keyed.Goals as goal

pub returns : goal.returns
returns c =
    let h = c.in_ok-sort_by.ensures.sorted in
    let k = c.in_ok-sort_by.ensures.stable in
    sort_is keyed_below keyed_order _ _ (h keyed_below keyed_order (answers_always _ _ _ (λ f a r g n. search rules))) (k keyed_below keyed_order (answers_always _ _ _ (λ f a r g n. search rules)))
