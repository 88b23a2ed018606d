use Rattle.std.proofs.Common.{ap, refl, string_bytes}
use Rattle.std.proofs.lemmas.Result.{err_from_is_err_and}
use Rattle.std.specs.Option.{option_map}
use Rattle.liquid_core.specs.ExpressionView.{expression_view}
use Rattle.liquid_lexer.specs.Tokens.{tokens_view}
use Rattle.liquid_parser.specs.Bound.{bound_pairs}
use Rattle.liquid_syntax.specs.Flats.{bindings_view}
use Rattle.liquid_parser.specs.Classification.{leaf_or}
use Rattle.liquid_parser.specs.PartialItems.{jekyll_node}
use Rattle.liquid_parser.specs.declared.pair_items.PairStyle.TheVariants.{JekyllInclude}
use Rattle.liquid_parser.proofs.PartialTurns.{jekyll_read, jekyll_refused, jekyll_stuck, pairs_alone, malformed}
use Rattle.liquid_parser.proofs.ChainCalls.{faulted}
use Rattle.liquid_parser.proofs.partial_items.read_jekyll_include.Goals as goal

pub returns-in_default-clause-statement : goal.returns-in_default-clause-statement
returns-in_default-clause-statement c =
    let e = c.expected_before.result in
    malformed jekyll_node _ e (faulted e _ (jekyll_stuck c.args.items.items c.in_default.ensures.spelling))

pub returns-in_err-all-clause-statement : goal.returns-in_err-all-clause-statement
returns-in_err-all-clause-statement c =
    let e = c.in_err-all.field-0.0 in
    let p = err_from_is_err_and c.from_residual-in_err-all.result c.from_residual-in_err-all.ensures.1 in
    rw (p.1, p.2) (malformed jekyll_node _ e (jekyll_refused c.args.items.items (tokens_view c.next_spelled.new.items.items) (expression_view c.in-Some.value) c.in-Some.spelling.now c.in-Some.ensures.value c.in-Some.ensures.spelling
    c.new.result.items e c.new.ensures.items c.in_err-all.ensures.pairs))

pub returns-clause-statement : goal.returns-clause-statement
returns-clause-statement c =
    let left = tokens_view c.next_spelled.new.items.items in
    let all = bindings_view c.in_ok-all.all.items in
    let read = pairs_alone c.new.result.items (bound_pairs JekyllInclude left) all c.new.ensures.items c.in_ok-all.ensures.pairs in (
      ap (λ o. leaf_or (option_map jekyll_node o))
          (jekyll_read c.args.items.items left (expression_view c.in-Some.value) c.in-Some.spelling.now c.in-Some.ensures.value c.in-Some.ensures.spelling (string_bytes c.in_ok-name.name) all c.in_ok-name.ensures read),
      refl,
    )
