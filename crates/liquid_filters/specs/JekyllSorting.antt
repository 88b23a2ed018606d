-- The filter `sort` of Jekyll.
use Rattle.std.specs.Prelude.{◌==◌, List, [], ◌∷◌, length, bytes_eq, codes, if◌then◌else◌, Option}
use Rattle.std.specs.Prelude.{Some, None, Result, Ok, Err}
use Rattle.liquid_model.specs.Data.{Datum, text_of}
use Rattle.liquid_model.specs.Fallible.{◌>>=◌}
use Rattle.liquid_model.specs.Find.{find}
use Rattle.liquid_model.specs.Texts.{Text}
use Rattle.liquid_model.specs.declared.error.ErrorKind.{ErrorKind}
use Rattle.liquid_model.specs.declared.error.ErrorKind.TheVariants.{InvalidInput, InvalidArgument}
use Rattle.liquid_model.specs.Arguments.{Answer, first_of}
use Rattle.liquid_filters.specs.Ends.{or_nil}
use Rattle.liquid_filters.specs.Sequences.{list, sequence, all_maps}
use Rattle.liquid_filters.specs.Sorting.{Key, sort_key, sort_by}
use Rattle.liquid_filters.specs.Path.{path}
use Rattle.liquid_filters.specs.declared.jekyll.array.sort.Nils.{Nils}
use Rattle.liquid_filters.specs.declared.jekyll.array.sort.Nils.TheVariants.{First}
use Rattle.liquid_filters.specs.declared.jekyll.array.sort.Nils.TheVariants.{Last}

abbrev pub nils_named : Text → Result Nils ErrorKind
nils_named s =
    if bytes_eq s (codes "first") then Ok First else (if bytes_eq s (codes "last") then Ok Last
    else Err InvalidInput)

-- nils come first where nothing is said
abbrev pub nils_given : Option Datum → Result Nils ErrorKind
nils_given None = Ok First
nils_given (Some d) = nils_named (text_of d)

abbrev pub or_no_path : Option (List Datum) → Result (List Datum) ErrorKind
or_no_path (Some p) = Ok p
or_no_path None = Err InvalidArgument

abbrev pub path_given : Text → Result (List Datum) ErrorKind
path_given name = or_no_path (path name)

-- what a value has along a path, or nil
abbrev pub value_or_nil : List Datum → Datum → Datum
value_or_nil p d = or_nil (find d p)

-- nil is the least value, and an item without a key comes last
abbrev pub nils_key : Nils → Datum → Key
nils_key First d = Some d
nils_key Last d = sort_key d

-- what an item is sorted by
abbrev pub found_key : Nils → List Datum → Datum → Key
found_key nils p d = nils_key nils (value_or_nil p d)

abbrev pub sort_maps : List Datum → Text → Option Datum → Answer
sort_maps ds name nils =
    if all_maps ds then nils_given nils >>=
    (λ n. path_given name >>= (λ p. Ok (list (sort_by (found_key n p) ds)))) else Err
    InvalidInput

-- without a property each item is sorted by itself
abbrev pub sort_items : List Datum → List Datum → Answer
sort_items ds [] = Ok (list (sort_by (found_key First []) ds))
sort_items ds (name ∷ args) = sort_maps ds (text_of name) (first_of args)

abbrev pub jekyll_sort_answer : Datum → List Datum → Answer
jekyll_sort_answer d args = if length (sequence d) == 0 then Err InvalidInput else sort_items
    (sequence d) args
