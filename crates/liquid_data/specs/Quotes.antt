-- Whether a quote is open in the text of a table.
--     quotes_after delimiter quotes byte      the place after one more byte of the text
--     after_all delimiter quotes bytes      the place after more of them
--     open_quote quotes      the line of the quote that is open
--     stray_after delimiter quotes byte      the line of the first text after a closing quote
--     unclosed reader      that line, where the text ended
--     bytes_left remaining reader      the bytes that are still to come, where these are known
use Rattle.std.specs.Prelude.{ℕ, ◌+◌, ◌==◌, ◌||◌, ◌&&◌, not, cond, length, min, Bool, true, false}
use Rattle.std.specs.Prelude.{List, [], ◌∷◌, Option, Some, None}
use Rattle.liquid_data.specs.declared.quotes.CellPlace.{CellPlace}
use Rattle.liquid_data.specs.declared.quotes.CellPlace.TheVariants.{Start, MarkOne, MarkTwo, Front}
use Rattle.liquid_data.specs.declared.quotes.CellPlace.TheVariants.{Bare, Quoted, AfterQuote}
use Rattle.liquid_data.specs.declared.quotes.QuoteReader.{QuoteReader}
use Rattle.liquid_data.specs.declared.quotes.Quotes.{Quotes}

abbrev pub table_start : Quotes
table_start = record { place = Start; line = 1; stray = None }

-- outside of quotes a cell ends at the byte between cells and at a line end
abbrev pub after_plain : ℕ → ℕ → CellPlace
after_plain d b = cond ((b == d) || ((b == 10) || (b == 13))) Front Bare

-- a quote at the front of a cell opens it
abbrev pub at_front : ℕ → ℕ → ℕ → CellPlace
at_front d line b = cond (b == 34) (Quoted line) (after_plain d b)

-- two quotes in a quoted cell are one of its text
abbrev pub cell_place_after : ℕ → ℕ → CellPlace → ℕ → CellPlace
cell_place_after d line Start b = cond (b == 239) MarkOne (at_front d line b)
cell_place_after d line MarkOne b = cond (b == 187) MarkTwo (after_plain d b)
cell_place_after d line MarkTwo b = cond (b == 191) Front (after_plain d b)
cell_place_after d line Front b = at_front d line b
cell_place_after d line Bare b = after_plain d b
cell_place_after d line (Quoted opened) b = cond (b == 34) (AfterQuote opened) (Quoted opened)
cell_place_after d line (AfterQuote opened) b = cond (b == 34) (Quoted opened) (after_plain d b)

abbrev pub line_after : ℕ → ℕ → ℕ
line_after line b = cond (b == 10) (min (line + 1) 18446744073709551615) line

-- text after a closing quote: neither another quote nor what ends the cell
abbrev pub is_stray : ℕ → CellPlace → ℕ → Bool
is_stray d (AfterQuote opened) b =
    not (b == 34) && (not (b == d) && (not (b == 10) && not (b == 13)))
is_stray d place b = false

abbrev pub line_if : Bool → ℕ → Option ℕ
line_if true line = Some line
line_if false line = None

-- the line of the first such text
abbrev pub first_stray : Option ℕ → Option ℕ → Option ℕ
first_stray (Some line) next = Some line
first_stray None next = next

abbrev pub stray_after : ℕ → Quotes → ℕ → Option ℕ
stray_after d q b = first_stray q.stray (line_if (is_stray d q.place b) q.line)

abbrev pub quotes_after : ℕ → Quotes → ℕ → Quotes
quotes_after d q b = record {
  place = cell_place_after d q.line q.place b;
  line = line_after q.line b;
  stray = stray_after d q b;
}

abbrev pub after_all : ℕ → Quotes → List ℕ → Quotes
after_all d q [] = q
after_all d q (b ∷ bs) = after_all d (quotes_after d q b) bs

abbrev pub opened_in : CellPlace → Option ℕ
opened_in (Quoted line) = Some line
opened_in _ = None

abbrev pub open_quote : Quotes → Option ℕ
open_quote q = opened_in q.place

-- ---- what the reader does

abbrev pub before_table : {R : Type 0} → R → ℕ → QuoteReader R
before_table reader d =
    record { reader = reader; delimiter = d; quotes = table_start; is_over = false }

abbrev pub unclosed : {R : Type 0} → QuoteReader R → Option ℕ
unclosed q = cond q.is_over (open_quote q.quotes) None

abbrev pub bytes_left : {R : Type 0} → (R → Option (List ℕ)) → QuoteReader R → Option (List ℕ)
bytes_left remaining q = remaining q.reader

-- a read of no bytes, where some were asked for
abbrev pub is_end : ℕ → List ℕ → Bool
is_end count buffer = (count == 0) && not (length buffer == 0)
