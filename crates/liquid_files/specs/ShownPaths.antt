-- The path of a file as a message shows it.
--     shown_path path     the path, where it is of ASCII and each of its characters prints; else
--                         its quotation
use Rattle.std.specs.Prelude.{ℕ, Bool, cond}
use Rattle.std.specs.Int.{is_in_range}
use Rattle.std.specs.List.{list_all}
use Rattle.liquid_model.specs.Texts.{Text}
use Rattle.liquid_model.specs.Quotes.{quotation}

-- a character of ASCII that prints, or a space
abbrev pub prints : ℕ → Bool
prints b = is_in_range 0x20 0x7E b

abbrev pub is_printable : Text → Bool
is_printable text = list_all prints text

abbrev pub shown_path : Text → Text
shown_path path = cond (is_printable path) path (quotation path)
