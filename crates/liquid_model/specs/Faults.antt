-- The messages of faults: what must be what, and what was found.
use Rattle.std.specs.Prelude.{ℕ, List, ◌++◌, codes}
use Rattle.liquid_model.specs.Data.{Datum, nil, truth, number, text, array, object}
use Rattle.liquid_model.specs.Quotes.{quotation}

-- what a value is; of a text its beginning too
abbrev pub found_name : Datum → List ℕ
found_name nil = codes "nil"
found_name (truth b) = codes "a truth value"
found_name (number z) = codes "a number"
found_name (text s) = codes "the text `" ++ (quotation s ++ codes "`")
found_name (array ds) = codes "a list"
found_name (object ms) = codes "a map"

-- `SUBJECT must be WANTED, not FOUND`, as `the input must be a list, not nil`
abbrev pub must_be : List ℕ → List ℕ → Datum → List ℕ
must_be subject wanted found =
    subject ++ (codes " must be " ++ (wanted ++ (codes ", not " ++ found_name found)))
