use Rattle.std.proofs.Common.{rules, ◌≡◌, ◌∙◌, sym, ap, ◌+◌}
use Rattle.liquid_model.specs.View.{view}
use Rattle.liquid_core.specs.Places.{place_of}
use Rattle.liquid_core.proofs.LoopFrames.{item_within}
use Rattle.liquid_core.proofs.frame.LoopFrame.item.Goals.{then-self, else-self}
use Rattle.liquid_core.proofs.frame.LoopFrame.item.Goals as goal

pub returns-then-place-items-clause-value : goal.returns-then-place-items-clause-value
returns-then-place-items-clause-value c =
    let t = c.args.self.now in
    let at : t.from + c.if-self.place ≡ place_of t.reversed t.from t.count t.at = elim c.if-self.branch [ then-self w ↦ rw (w.if-self, w.place-is) (search rules) | else-self w ↦ rw (w.if-self, w.place-is) (search rules) ] in
    rw (sym at, c.in-Borrowed.is) (ap view c.index-items-place.is ∙ item_within c.in-Borrowed.items.now (t.from + c.if-self.place) _ c.if-place-items.true)

pub returns-then-place-len-clause-value : goal.returns-then-place-len-clause-value
returns-then-place-len-clause-value c =
    let t = c.args.self.now in
    let at : t.from + c.if-self.place ≡ place_of t.reversed t.from t.count t.at = elim c.if-self.branch [ then-self w ↦ rw (w.if-self, w.place-is) (search rules) | else-self w ↦ rw (w.if-self, w.place-is) (search rules) ] in
    rw (sym at, c.in-Owned.is) (ap view c.index.ensures ∙ item_within c.in-Owned.items.items (t.from + c.if-self.place) _ (search rules))
