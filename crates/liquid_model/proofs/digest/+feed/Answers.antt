use Rattle.std.proofs.Common.{rules}
use Rattle.liquid_model.proofs.Views.{view-Array, view-Object, items_len_view, pairs_len_view}
use Rattle.liquid_model.proofs.digest.+feed.Goals as goal

pub feed-returns-in-Array : goal.feed-returns-in-Array
feed-returns-in-Array g t c = search (rules, view-Array, items_len_view c.in-Array.items.items)

pub feed-returns-in-Object : goal.feed-returns-in-Object
feed-returns-in-Object g t c = search (rules, view-Object, pairs_len_view c.in-Object.pairs.entries)
