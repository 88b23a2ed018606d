use Rattle.liquid_warnings.proofs.AddedRemarks.{added_to_none, adds_then}
use Rattle.liquid_warnings.specs.Warnings.{AreOfSource}
use Rattle.liquid_warnings.proofs.warnings.warnings_in.Goals as goal

pub returns-clause-source : goal.returns-clause-source
returns-clause-source c =
    added_to_none (AreOfSource c.args.given.attributes) _ _ c.new-remarks.ensures.items
    (adds_then _ _ _ _ _ c.in_ok-add_else_if.ensures.added c.in_ok-add_unescaped.ensures.added)
