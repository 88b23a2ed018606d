-- What reading values answers.
use Rattle.std.specs.Prelude.{◌≡◌, ◌≤◌, Bool, true, false, List, Some, None, length}
use Rattle.liquid_lexer.specs.Tokens.{tokens_view}
use Rattle.liquid_lexer.specs.declared.item.Item.{Item}
use Rattle.liquid_parser.specs.ValueLists.{past_separator}
use Rattle.liquid_parser.specs.declared.value_items.Separators.{Separators}

-- whether a separator was taken off the front
abbrev pub SkipsSeparator : Separators → List Item → List Item → Bool → Type 0
SkipsSeparator s old new true = (past_separator s (tokens_view old) ≡ Some (tokens_view new)) ×
    (length new ≤ length old)
SkipsSeparator s old new false = (past_separator s (tokens_view old) ≡ None) × (new ≡ old)
