-- What warnings say of data with which Liquid for Ruby does something else.
--     difference_said position path d      of a path in the data that a piece there asks for
--     IsOfRuby s      such a warning
--     AreOfData e warnings      those about the data: what it has other than a template asks for
--       it, and, of a template for Ruby's engine, what that does otherwise with it
use Rattle.std.specs.Prelude.{◌++◌, List, All, codes}
use Rattle.liquid_model.specs.Texts.{Text}
use Rattle.liquid_syntax.specs.declared.positions.Position.{Position}
use Rattle.liquid_warnings.specs.declared.difference.Difference.{Difference}
use Rattle.liquid_warnings.specs.declared.difference.Difference.TheVariants.{KeyOrder}
use Rattle.liquid_warnings.specs.declared.difference.Difference.TheVariants.{NilSearched}
use Rattle.liquid_warnings.specs.declared.difference.Difference.TheVariants.{NilContained}
use Rattle.liquid_warnings.specs.Messages.{in_data}
use Rattle.liquid_warnings.specs.Ported.{is_for_ruby}
use Rattle.liquid_warnings.specs.Remarks.{Said, warning}
use Rattle.liquid_warnings.specs.Sorts.{InOrder, IsDoubt, OnlyWhere, WarnsOf}
use Rattle.liquid_warnings.specs.declared.written_for.WrittenFor.{WrittenFor}

-- a loop over a map; `contains` with nil on its left, or on its right
abbrev pub difference_kind : Difference → Text
difference_kind KeyOrder = codes "KeyOrder"
difference_kind NilSearched = codes "NilContains"
difference_kind NilContained = codes "NilContains"

abbrev pub difference_words : Difference → Text
difference_words KeyOrder = codes
    " is a map: a loop goes by its keys, Ruby's by the file; make it a list of pairs"
difference_words NilSearched = codes
    " has no value: `contains` is a fault, in Ruby false; use `--missing nil` or `default`"
difference_words NilContained = codes
    " is nil: every text contains it, in Ruby none; test for it first"

abbrev pub difference_message : Difference → Text → Text
difference_message d path = in_data path ++ difference_words d

abbrev pub difference_said : Position → Text → Difference → Said
difference_said position path d = warning position (difference_kind d) (difference_message d path)

abbrev pub IsOfRuby : Said → Type 0
IsOfRuby s = (path : Text) × (d : Difference)
    × WarnsOf (difference_kind d) (difference_message d path) s

abbrev pub AreOfData : WrittenFor → List Said → Type 0
AreOfData e = InOrder (All IsDoubt) (OnlyWhere (is_for_ruby e) (All IsOfRuby))
