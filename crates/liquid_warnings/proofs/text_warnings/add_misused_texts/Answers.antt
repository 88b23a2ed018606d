use Rattle.liquid_warnings.proofs.AddedRemarks.{adds_then}
use Rattle.liquid_warnings.proofs.text_warnings.add_misused_texts.Goals as goal

pub returns : goal.returns
returns c = adds_then _ _ _ _ _ c.in_ok-add_text_tests.ensures c.in_ok-add_quoted_names.ensures
