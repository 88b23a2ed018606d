use Rattle.liquid_warnings.proofs.AddedRemarks.{adds_found, adds_no_more, adds_then}
use Rattle.liquid_warnings.specs.Sorts.{IsPrintedFront}
use Rattle.liquid_warnings.proofs.text_warnings.add_text_warnings.Goals as goal

pub returns-clause-added : goal.returns-clause-added
returns-clause-added c =
    let front = adds_found IsPrintedFront _ _ _ _ (adds_no_more IsPrintedFront _) c.in_ok-push_found.ensures c.in_ok-front_matter.ensures in
    adds_then _ _ _ _ _ c.in_ok-add_strays.ensures (adds_then _ _ _ _ _ c.in_ok-add_misused_texts.ensures
    (adds_then _ _ _ _ _ front c.in_ok-add_foreign.ensures.added))
