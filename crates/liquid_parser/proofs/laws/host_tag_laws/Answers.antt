use Rattle.std.proofs.Common.{◌++◌, length}
use Rattle.liquid_evaluation.specs.Tree.{output}
use Rattle.liquid_lexer.specs.Pieces as pieces
use Rattle.liquid_language.specs.declared.host_tags.HostKind.TheVariants.{Tag}
use Rattle.liquid_parser.specs.HostTags.{call_requiring, chain_of_call}
use Rattle.liquid_parser.specs.Nesting.{leaf}
use Rattle.liquid_parser.proofs.HostTagLaws.{output_as_tag, tag_as_output, no_host_role}
use Rattle.liquid_parser.proofs.StatementLaws.{statement_says, statement_stands, stands_of}
use Rattle.liquid_parser.proofs.laws.host_tag_laws.Goals as goal

pub returns-clause-outputs : goal.returns-clause-outputs
returns-clause-outputs c = λ l x w n called xs is os filter role at values spelled.
    let tag = leaf (output (chain_of_call called (call_requiring filter (length xs) (xs ++ called.given)))) in
    let shown = leaf (output (chain_of_call called (call_requiring filter (length (xs ++ called.given)) (xs ++ called.given)))) in (
      λ h. statement_stands l x (pieces.output os) shown (stands_of shown (λ e. absurd cc)) (tag_as_output l x w n called xs is os filter role at values spelled (statement_says l x (pieces.tag w is) tag h)),
      λ h. statement_stands l x (pieces.tag w is) tag (stands_of tag (λ e. absurd cc)) (output_as_tag l x w n called xs is os filter role at values spelled (statement_says l x (pieces.output os) shown h)),
    )

pub returns-clause-none : goal.returns-clause-none
returns-clause-none c = λ l x w n. no_host_role l x w (Tag n)
