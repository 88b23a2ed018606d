use Rattle.std.proofs.Common.{refl, [], ◌∷◌, ◌++◌, length}
use Rattle.liquid_evaluation.specs.Tree.{output}
use Rattle.liquid_lexer.specs.Pieces as pieces
use Rattle.liquid_language.specs.declared.block.Block.TheVariants.{Host}
use Rattle.liquid_language.specs.declared.host_tags.HostKind.TheVariants.{Block}
use Rattle.liquid_parser.specs.HostTags.{call_requiring, through_call}
use Rattle.liquid_parser.specs.Nesting.{begins, leaf, of_one}
use Rattle.liquid_parser.specs.Statements.{is_host_end}
use Rattle.liquid_parser.proofs.HostTagLaws.{block_as_output, output_as_block, block_ends, no_host_role}
use Rattle.liquid_parser.proofs.StatementLaws.{statement_says, statement_stands, stands_of}
use Rattle.liquid_parser.proofs.laws.host_block_laws.Goals as goal

pub returns-clause-calls : goal.returns-clause-calls
returns-clause-calls c = λ l x w n called xs v is os filter role at values spelled.
    let block = begins (of_one (Host n) (through_call (call_requiring filter (length xs) (xs ++ called.given)))) in
    let shown = leaf (output (record { entry = v; filters = call_requiring filter (length (xs ++ called.given)) (xs ++ called.given) ∷ [] })) in (
      λ h. statement_stands l x (pieces.output os) shown (stands_of shown (λ e. absurd cc)) (block_as_output l x w n called xs v is os filter role at values spelled (statement_says l x (pieces.tag w is) block h)),
      λ h. statement_stands l x (pieces.tag w is) block (stands_of block (λ e. absurd cc)) (output_as_block l x w n called xs v is os filter role at values spelled (statement_says l x (pieces.output os) shown h)),
    )

pub returns-clause-end : goal.returns-clause-end
returns-clause-end c = λ l n is. is_host_end (block_ends l n) refl

pub returns-clause-none : goal.returns-clause-none
returns-clause-none c = λ l x w n. no_host_role l x w (Block n)
