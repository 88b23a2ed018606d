-- The filter `slice`. A missing offset, which no call can make, counts as 0.
use Rattle.std.specs.Prelude.{ℕ, zero, suc, ℤ, pos, negsuc, List, length, drop, Ok, Err}
use Rattle.std.specs.Str.{chars, encode_utf8_all}
use Rattle.liquid_model.specs.Data.{Datum, text, array, text_of}
use Rattle.liquid_model.specs.Fallible.{◌>>=◌}
use Rattle.liquid_model.specs.Lists.{list_of}
use Rattle.liquid_model.specs.Texts.{Text}
use Rattle.liquid_model.specs.View.{items_of}
use Rattle.liquid_model.specs.declared.error.ErrorKind.TheVariants.{InvalidArgument}
use Rattle.liquid_model.specs.Arguments.{Answer}
use Rattle.liquid_filters.specs.Arguments.{whole_or}
use Rattle.liquid_filters.specs.TextPlaces.{start, part_from}

-- the items from an offset on, which is among as many places as there are items
abbrev pub items_part : ℤ → ℕ → List Datum → List Datum
items_part offset count ds = part_from (length ds) (start (length ds) offset) count ds

-- the characters from an offset on, which is among as many places as there are bytes
abbrev pub text_part : ℤ → ℕ → Text → Text
text_part offset count s =
    encode_utf8_all (part_from (length s) (start (length s) offset) count (chars s))

-- of a list its items, of anything else the characters of its text
abbrev pub part : ℤ → ℕ → Datum → Datum
part offset count (array ds) = array (items_of (items_part offset count (list_of ds)))
part offset count d = text (text_part offset count (text_of d))

-- the length is at least 1
abbrev pub sliced : Datum → ℤ → ℤ → Answer
sliced d offset (pos zero) = Err InvalidArgument
sliced d offset (pos (suc n)) = Ok (part offset (suc n) d)
sliced d offset (negsuc n) = Err InvalidArgument

-- an offset, and a length which is 1 where none is given
abbrev pub slice_answer : Datum → List Datum → Answer
slice_answer d args =
    whole_or (pos 0) args >>= (λ offset. whole_or (pos 1) (drop 1 args) >>=
    (λ count. sliced d offset count))
