use Rattle.liquid_warnings.proofs.AddedRemarks.{adds_found, adds_no_more, adds_then}
use Rattle.liquid_warnings.specs.Sorts.{IsUnusedPartial}
use Rattle.liquid_warnings.proofs.whole.Whole.add_all_partial_warnings.Goals as goal

pub returns : goal.returns
returns c =
    let unused = adds_found IsUnusedPartial _ _ _ _ (adds_no_more IsUnusedPartial _) c.in_ok-push_found.ensures c.in_ok-unused_file.ensures in
    adds_then _ _ _ _ _ c.in_ok-add_missing.ensures (adds_then _ _ _ _ _ unused (adds_then _ _ _ _ _ c.in_ok-add_recursive.ensures
    (adds_then _ _ _ _ _ c.in_ok-add_pairs.ensures c.in_ok-add_lost.ensures)))
