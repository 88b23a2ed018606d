use Rattle.std.proofs.Common.{length, subst, sym}
use Rattle.liquid_language.specs.declared.block.Block.TheVariants as blocks
use Rattle.liquid_language.specs.declared.registry.BlockKind.{BlockKind}
use Rattle.liquid_lexer.specs.Tokens.{tokens_view}
use Rattle.liquid_lexer.specs.declared.fault.FaultKind.TheVariants.{Expected}
use Rattle.liquid_parser.specs.Classification.{block_statement}
use Rattle.liquid_parser.specs.declared.build.Stage.TheVariants.{First, Last, CaseHead}
use Rattle.liquid_parser.specs.inside.Classifies.{Classifies}
use Rattle.liquid_parser.proofs.Begun.{begins_as, begins_kind, begins_place, two_read}
use Rattle.liquid_parser.proofs.classify.blocks.read_block.Goals as goal

pub returns-in-If-clause-statement : goal.returns-in-If-clause-statement
returns-in-If-clause-statement c =
    subst (λ (k : BlockKind). Classifies (block_statement (tokens_view c.args.items.items) k) c.begins.result) (sym c.in-If.is)
    (begins_as blocks.If First c.read_if.result c.begins.result c.begins.ensures _ (two_read blocks.If _ c.read_if.result c.read_if.ensures.node))

pub returns-in-If-clause-kind : goal.returns-in-If-clause-kind
returns-in-If-clause-kind c = begins_kind blocks.If First c.read_if.result c.begins.result c.begins.ensures Expected c.read_if.ensures.kind

pub returns-in-If-clause-place : goal.returns-in-If-clause-place
returns-in-If-clause-place c = begins_place blocks.If First c.read_if.result c.begins.result c.begins.ensures (length c.args.at.now) c.read_if.ensures.place

pub returns-in-Unless-clause-statement : goal.returns-in-Unless-clause-statement
returns-in-Unless-clause-statement c =
    subst (λ (k : BlockKind). Classifies (block_statement (tokens_view c.args.items.items) k) c.begins-in-Unless.result) (sym c.in-Unless.is)
    (begins_as blocks.Unless First c.read_unless.result c.begins-in-Unless.result c.begins-in-Unless.ensures _ (two_read blocks.Unless _ c.read_unless.result c.read_unless.ensures.node))

pub returns-in-Unless-clause-kind : goal.returns-in-Unless-clause-kind
returns-in-Unless-clause-kind c = begins_kind blocks.Unless First c.read_unless.result c.begins-in-Unless.result c.begins-in-Unless.ensures Expected c.read_unless.ensures.kind

pub returns-in-Unless-clause-place : goal.returns-in-Unless-clause-place
returns-in-Unless-clause-place c = begins_place blocks.Unless First c.read_unless.result c.begins-in-Unless.result c.begins-in-Unless.ensures (length c.args.at.now) c.read_unless.ensures.place

pub returns-in-Capture-clause-statement : goal.returns-in-Capture-clause-statement
returns-in-Capture-clause-statement c =
    subst (λ (k : BlockKind). Classifies (block_statement (tokens_view c.args.items.items) k) c.begins-in-Capture.result) (sym c.in-Capture.is)
    (begins_as blocks.Capture Last c.read_capture.result c.begins-in-Capture.result c.begins-in-Capture.ensures _ c.read_capture.ensures.node)

pub returns-in-Capture-clause-kind : goal.returns-in-Capture-clause-kind
returns-in-Capture-clause-kind c = begins_kind blocks.Capture Last c.read_capture.result c.begins-in-Capture.result c.begins-in-Capture.ensures Expected c.read_capture.ensures.kind

pub returns-in-Capture-clause-place : goal.returns-in-Capture-clause-place
returns-in-Capture-clause-place c = begins_place blocks.Capture Last c.read_capture.result c.begins-in-Capture.result c.begins-in-Capture.ensures (length c.args.at.now) c.read_capture.ensures.place

pub returns-in-Case-clause-statement : goal.returns-in-Case-clause-statement
returns-in-Case-clause-statement c =
    subst (λ (k : BlockKind). Classifies (block_statement (tokens_view c.args.items.items) k) c.begins-in-Case.result) (sym c.in-Case.is)
    (begins_as blocks.Case CaseHead c.read_case.result c.begins-in-Case.result c.begins-in-Case.ensures _ c.read_case.ensures.node)

pub returns-in-Case-clause-kind : goal.returns-in-Case-clause-kind
returns-in-Case-clause-kind c = begins_kind blocks.Case CaseHead c.read_case.result c.begins-in-Case.result c.begins-in-Case.ensures Expected c.read_case.ensures.kind

pub returns-in-Case-clause-place : goal.returns-in-Case-clause-place
returns-in-Case-clause-place c = begins_place blocks.Case CaseHead c.read_case.result c.begins-in-Case.result c.begins-in-Case.ensures (length c.args.at.now) c.read_case.ensures.place

pub returns-in-For-clause-statement : goal.returns-in-For-clause-statement
returns-in-For-clause-statement c =
    subst (λ (k : BlockKind). Classifies (block_statement (tokens_view c.args.items.items) k) c.begins-in-For.result) (sym c.in-For.is)
    (begins_as blocks.For First c.read_for.result c.begins-in-For.result c.begins-in-For.ensures _ (two_read blocks.For _ c.read_for.result c.read_for.ensures.node))

pub returns-in-For-clause-kind : goal.returns-in-For-clause-kind
returns-in-For-clause-kind c = begins_kind blocks.For First c.read_for.result c.begins-in-For.result c.begins-in-For.ensures Expected c.read_for.ensures.kind

pub returns-in-For-clause-place : goal.returns-in-For-clause-place
returns-in-For-clause-place c = begins_place blocks.For First c.read_for.result c.begins-in-For.result c.begins-in-For.ensures (length c.args.at.now) c.read_for.ensures.place

pub returns-in-TableRow-clause-statement : goal.returns-in-TableRow-clause-statement
returns-in-TableRow-clause-statement c =
    subst (λ (k : BlockKind). Classifies (block_statement (tokens_view c.args.items.items) k) c.begins-in-TableRow.result) (sym c.in-TableRow.is)
    (begins_as blocks.TableRow Last c.read_table_row.result c.begins-in-TableRow.result c.begins-in-TableRow.ensures _ c.read_table_row.ensures.node)

pub returns-in-TableRow-clause-kind : goal.returns-in-TableRow-clause-kind
returns-in-TableRow-clause-kind c = begins_kind blocks.TableRow Last c.read_table_row.result c.begins-in-TableRow.result c.begins-in-TableRow.ensures Expected c.read_table_row.ensures.kind

pub returns-in-TableRow-clause-place : goal.returns-in-TableRow-clause-place
returns-in-TableRow-clause-place c = begins_place blocks.TableRow Last c.read_table_row.result c.begins-in-TableRow.result c.begins-in-TableRow.ensures (length c.args.at.now) c.read_table_row.ensures.place
