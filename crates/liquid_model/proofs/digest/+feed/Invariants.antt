use Rattle.std.proofs.Common.{◌≡◌, drop, fold}
use Rattle.liquid_model.specs.Digest.{items_digest, pairs_digest}
use Rattle.liquid_model.specs.View.{items_view, pairs_view}
use Rattle.liquid_model.proofs.digest.+feed.Given as goal

abbrev pub invariant-feed_items-loop-item : goal.invariant-feed_items-loop-item
invariant-feed_items-loop-item g l =
    fold g.H.Hasher.write l.state (items_digest (items_view (drop l.item-index l.item-items))) ≡ fold g.H.Hasher.write l.initial.state (items_digest (items_view l.item-items))

abbrev pub invariant-feed_pairs-loop-key : goal.invariant-feed_pairs-loop-key
invariant-feed_pairs-loop-key g l =
    fold g.H.Hasher.write l.state (pairs_digest (pairs_view l.key-iterator)) ≡ fold g.H.Hasher.write l.initial.state (pairs_digest (pairs_view l.initial.key-iterator))
