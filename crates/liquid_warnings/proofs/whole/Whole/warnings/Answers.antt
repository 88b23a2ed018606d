use Rattle.liquid_warnings.proofs.AddedRemarks.{added_to_none, adds_then}
use Rattle.liquid_warnings.specs.Warnings.{AreOfWhole}
use Rattle.liquid_warnings.proofs.whole.Whole.warnings.Goals as goal

pub returns-clause-whole : goal.returns-clause-whole
returns-clause-whole c =
    added_to_none (AreOfWhole c.args.given) _ _ c.new-remarks.ensures.items
    (adds_then _ _ _ _ _ c.in_ok-add_name_warnings.ensures (adds_then _ _ _ _ _ c.in_ok-add_text_warnings.ensures.added
    (adds_then _ _ _ _ _ c.in_ok-add_data_warnings.ensures.added c.in_ok-add_partial_warnings.ensures)))
