use Rattle.std.proofs.Common.{sym, ap, ◌∙◌, refl, Some, string_bytes}
use Rattle.std.specs.Option.{option_map}
use Rattle.liquid_evaluation.specs.SourceView.{source_view}
use Rattle.liquid_evaluation.specs.Tree.{Nodes, for_each}
use Rattle.liquid_syntax.specs.Flats.{window_view}
use Rattle.liquid_parser.specs.Loops.{for_node}
use Rattle.liquid_syntax.specs.declared.loop_nodes.For.{For}
use Rattle.liquid_parser.proofs.classify.blocks.read_for.Goals as goal

pub returns-clause-node : goal.returns-clause-node
returns-clause-node c = (
  ap (option_map for_node) c.in_ok-read.ensures.head
      ∙ ap (λ (f : For). Some (λ (b o : Nodes). for_each (string_bytes f.variable) (source_view f.source) (window_view f.window) b o)) (sym c.in_ok-head.ensures.ok),
  (c.open.result.first_end, c.open.result.last_end, refl),
)
