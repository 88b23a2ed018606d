use Rattle.std.proofs.Common.{List, sym, subst}
use Rattle.liquid_lexer.specs.PieceView.{lexed_items_view, piece_view}
use Rattle.liquid_lexer.specs.Tokens.{Token}
use Rattle.liquid_lexer.specs.declared.piece.Piece.{Piece}
use Rattle.liquid_lexer.proofs.Seen.{seen_tokens}
use Rattle.liquid_parser.specs.inside.Classifies.{Classifies}
use Rattle.liquid_parser.specs.Classification.{leaf_or, reads, tag_statement}
use Rattle.liquid_parser.specs.Outputs.{output_of}
use Rattle.liquid_language.specs.Roles.{role_of}
use Rattle.liquid_parser.proofs.classify.classify.Goals as goal

pub returns-in-Tag-clause-statement : goal.returns-in-Tag-clause-statement
returns-in-Tag-clause-statement c =
    let role = role_of c.args.language.now c.args.context c.in-Tag.name.now in
    let is = c.in-Tag.items.items in
    let classified = subst (λ (ts : List Token). Classifies (tag_statement c.args.language.now c.args.context (lexed_items_view is) ts role) c.read_tag.result) (sym (seen_tokens is)) c.read_tag.ensures.statement in
    subst (λ (p : Piece). Classifies (reads c.args.language.now c.args.context (piece_view p)) c.read_tag.result) (sym c.in-Tag.is) classified

pub returns-in-Output-clause-statement : goal.returns-in-Output-clause-statement
returns-in-Output-clause-statement c =
    let l = c.args.language.now in
    let is = c.in-Output.items.items in
    let classified = subst (λ (ts : List Token). Classifies (leaf_or (output_of l ts)) c.read_output.result) (sym (seen_tokens is)) c.read_output.ensures.statement in
    subst (λ (p : Piece). Classifies (reads l c.args.context (piece_view p)) c.read_output.result) (sym c.in-Output.is) classified
