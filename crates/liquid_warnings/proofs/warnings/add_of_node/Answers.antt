use Rattle.std.proofs.Common.{◌++◌, ◌∙◌, ap, option_map, sym}
use Rattle.std.proofs.lemmas.Result.{on_ok_weaker}
use Rattle.liquid_warnings.specs.Remarks.{all_said}
use Rattle.liquid_warnings.specs.Warnings.{said_at}
use Rattle.liquid_warnings.proofs.FileWarnings.{two_said}
use Rattle.liquid_warnings.proofs.warnings.add_of_node.Goals as goal

pub returns : goal.returns
returns c = on_ok_weaker c.push_found-2.result
    (λ two. two_said _ _ _ _ _ _ _ c.in_ok-node_warning.ensures c.in_ok-engine_warning.ensures c.in_ok-push_found.ensures two
    ∙ ap (λ o. all_said c.args.remarks.now.items ++ said_at c.args.written_for (option_map (λ p. p.now) o) c.args.node.now) (sym c.in-Some.is))
    c.push_found-2.ensures
