use Rattle.std.proofs.Common.{◌≡◌, ◌++◌, codes, drop, map, string_bytes}
use Rattle.std.specs.List.{flat_map}
use Rattle.liquid_core.specs.ExpressionView.{expression_view}
use Rattle.liquid_core.specs.Written.{written_form}
use Rattle.liquid_evaluation.specs.Groups.{values_group}
use Rattle.liquid_parser.proofs.group.values_group.Given as goal

-- what was written and what is left make the whole
abbrev pub invariant-loop-value : goal.invariant-loop-value
invariant-loop-value l =
    values_group (map expression_view l.values) ≡ string_bytes l.group ++ flat_map (λ x. codes "-" ++ written_form x) (map expression_view (drop l.value-index l.rest))
