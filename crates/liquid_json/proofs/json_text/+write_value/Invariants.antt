use Rattle.std.proofs.Common.{◌≡◌, ◌++◌, drop}
use Rattle.liquid_model.specs.View.{items_view, pairs_view}
use Rattle.liquid_json.specs.JsonTexts.{items_tokens, pairs_tokens}
use Rattle.liquid_json.proofs.json_text.+write_value.Given as goal

-- the tokens that are there and those of what is left are all tokens
abbrev pub invariant-write_items-loop-item : goal.invariant-write_items-loop-item
invariant-write_items-loop-item l = record {
  tokens : l.initial.writer.tokens ++ items_tokens (items_view l.item-items)
      ≡ l.writer.tokens ++ items_tokens (items_view (drop l.item-index l.item-items));
  before : l.writer.before ≡ l.initial.writer.before;
}

abbrev pub invariant-write_pairs-loop-key : goal.invariant-write_pairs-loop-key
invariant-write_pairs-loop-key l = record {
  tokens : l.initial.writer.tokens ++ pairs_tokens (pairs_view l.initial.key-iterator)
      ≡ l.writer.tokens ++ pairs_tokens (pairs_view l.key-iterator);
  before : l.writer.before ≡ l.initial.writer.before;
}
