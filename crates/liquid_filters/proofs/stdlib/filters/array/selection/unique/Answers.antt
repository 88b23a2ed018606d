use Rattle.std.proofs.Common.{arith, ◌≡◌, ◌∙◌, true, cond, not, ap, List, [], ◌∷◌, ◌++◌, map}
use Rattle.std.proofs.lemmas.Grind.{common_steps}
use Rattle.liquid_model.specs.Data.{Datum}
use Rattle.liquid_model.specs.Order.{same}
use Rattle.liquid_model.specs.View.{view}
use Rattle.liquid_filters.specs.Keeping.{has_same}
use Rattle.liquid_filters.proofs.stdlib.filters.array.selection.unique.Goals as goal
use Rattle.liquid_filters.proofs.stdlib.filters.array.selection.unique.Goals.{then-branch+in_ok-copy+in_ok-push, else-branch}

has_same_push : (d e : Datum) (ks : List Datum) → has_same d (ks ++ e ∷ []) ≡ cond (same e d) true (has_same d ks)
has_same_push d e [] = grind arith
has_same_push d e (k ∷ ks) = grind (arith, has_same_push d e ks)

-- the set takes an item exactly where no kept one equals it, and is as before where it takes none
pub loop-item-preserved : goal.loop-item-preserved
loop-item-preserved c =
    let inv = c.loop-item.invariant in
    let e = c.in_ok-insert.ensures in
    let x = c.item-item.result in
    let added : c.in_ok-insert.field-0 ≡ not (has_same (view x) (map view c.loop-item.kept.items)) = e.added ∙ ap not (inv.held x) in
    elim c.if-branch.branch [
      | then-branch+in_ok-copy+in_ok-push w ↦ record {
        kept = grind (arith, common_steps, inv.kept, added, w.if-branch.true, w.kept-is, w.in_ok-push.ensures.items);
        held = λ v. grind (arith, common_steps, has_same_push, inv.held v, e.updates.0 (record { ref_ptr = c.args.items.ref_ptr; now = v }), w.kept-is, w.in_ok-push.ensures.items);
      }
      | else-branch w ↦ record {
        kept = grind (arith, common_steps, inv.kept, added, w.if-branch.false, w.kept-is);
        held = λ v. grind (arith, common_steps, inv.held v, e.unchanged, w.if-branch.false, w.kept-is);
      }
    ]
