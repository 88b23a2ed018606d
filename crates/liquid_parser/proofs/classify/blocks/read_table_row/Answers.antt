use Rattle.std.proofs.Common.{sym, ap, ◌∙◌, refl, Option, string_bytes}
use Rattle.std.specs.Option.{option_map}
use Rattle.liquid_core.specs.ExpressionView.{expression_view}
use Rattle.liquid_evaluation.specs.SourceView.{source_view}
use Rattle.liquid_evaluation.specs.Tree as tree
use Rattle.liquid_syntax.specs.Flats.{window_view}
use Rattle.liquid_parser.specs.Classification.{one_or}
use Rattle.liquid_parser.specs.Loops.{Head, row_node}
use Rattle.liquid_parser.specs.Nesting.{begins, of_one}
use Rattle.liquid_language.specs.declared.block.Block.TheVariants as blocks
use Rattle.liquid_syntax.specs.declared.loop_nodes.TableRow.{TableRow}
use Rattle.liquid_parser.proofs.classify.blocks.read_table_row.Goals as goal

pub returns-clause-node : goal.returns-clause-node
returns-clause-node c = (
  ap (λ (o : Option Head). one_or blocks.TableRow (option_map row_node o)) c.in_ok-read.ensures.head
      ∙ ap (λ (r : TableRow). begins (of_one blocks.TableRow (λ (b : tree.Nodes). tree.tablerow (string_bytes r.variable) (source_view r.source) (window_view r.window) (option_map expression_view r.cols) b))) (sym c.in_ok-head.ensures.ok),
  (0, refl),
)
