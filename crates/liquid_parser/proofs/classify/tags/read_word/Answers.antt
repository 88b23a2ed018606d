use Rattle.std.proofs.Common.{sym, ◌∙◌, string_bytes}
use Rattle.liquid_lexer.specs.Tokens.{tokens_view}
use Rattle.liquid_parser.proofs.Alone.{word_done, word_more}
use Rattle.liquid_parser.proofs.ChainCalls.{faulted}
use Rattle.liquid_parser.proofs.ItemLaws.{nothing_seen}
use Rattle.liquid_parser.proofs.classify.tags.read_word.Goals as goal

pub returns-then-is_over-clause-word : goal.returns-then-is_over-clause-word
returns-then-is_over-clause-word c =
    let left = c.next_word.new.items.items in
    word_done (tokens_view c.args.items.items) (string_bytes c.in-Some.name) (tokens_view left) c.in-Some.ensures.value (nothing_seen left _ (sym c.is_over.ensures ∙ c.if-is_over.true))

pub returns-clause-word : goal.returns-clause-word
returns-clause-word c =
    let left = c.next_word.new.items.items in
    faulted c.expected_before-2.result _ (word_more (tokens_view c.args.items.items) (string_bytes c.in-Some.name) (tokens_view left) c.in-Some.ensures.value (nothing_seen left _ (sym c.is_over.ensures ∙ c.if-is_over.false)))
