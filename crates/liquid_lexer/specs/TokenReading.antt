-- What it is to take a symbol or a word off the front.
use Rattle.std.specs.Prelude.{◌≡◌, ◌<◌, Bool, true, false, List, Some, None, length}
use Rattle.liquid_model.specs.Texts.{Text}
use Rattle.liquid_lexer.specs.Tokens.{tokens_view, past, past_word}
use Rattle.liquid_lexer.specs.declared.item.Item.{Item}
use Rattle.liquid_lexer.specs.declared.symbol.Symbol.{Symbol}

-- whether a symbol was taken off the front
abbrev pub Skips : Symbol → List Item → List Item → Bool → Type 0
Skips s old new true = (past s (tokens_view old) ≡ Some (tokens_view new)) ×
    (length new < length old)
Skips s old new false = (past s (tokens_view old) ≡ None) × (new ≡ old)

-- whether a word was taken off the front
abbrev pub SkipsWord : Text → List Item → List Item → Bool → Type 0
SkipsWord w old new true = (past_word w (tokens_view old) ≡ Some (tokens_view new)) ×
    (length new < length old)
SkipsWord w old new false = (past_word w (tokens_view old) ≡ None) × (new ≡ old)
