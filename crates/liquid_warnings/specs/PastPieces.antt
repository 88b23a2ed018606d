-- What follows an output or a tag of a source.
--     past_piece l inside      what follows the piece whose `{` ends before `inside`
use Rattle.std.specs.Prelude.{List, ℕ, [], Option, option_map}
use Rattle.std.specs.Option.{option_map_or}
use Rattle.liquid_lexer.specs.SourceReading.{Markup, body_at, markup_at, wanted_body}
use Rattle.liquid_language.specs.Roles.{body_after}
use Rattle.liquid_language.specs.Styles.{style_of}
use Rattle.liquid_language.specs.declared.block.BlockContext.TheVariants.{Outside}
use Rattle.liquid_language.specs.declared.registry.Language.{Language}

-- the body after a tag, where that isn't read, is passed over too, and without its end it is all
-- that follows
abbrev pub past_body : Language → Markup × List ℕ → List ℕ
past_body l m = option_map_or (λ b. b.1)
    (body_at (wanted_body (body_after l Outside) m.0.piece) m.0 m.1) []

-- nothing, where no piece can be read there
abbrev pub past_piece : Language → List ℕ → Option (List ℕ)
past_piece l inside = option_map (past_body l) (markup_at (style_of l) inside)
