-- Remarks that a function adds.
--     AddsRemarks P old new      it added some of which `P` holds
--     maybe_said remark      what an optional remark says: nothing, or one thing
--     said_at_each kind message places      a warning that says this at each place, in their order
use Rattle.std.specs.Prelude.{◌≡◌, List, [], ◌∷◌, ◌++◌, Option, Some, None, map}
use Rattle.liquid_model.specs.Texts.{Text}
use Rattle.liquid_model.specs.declared.origin.Location.{Location}
use Rattle.liquid_warnings.specs.Remarks.{Said, all_said, remark_view, warning_at}
use Rattle.liquid_warnings.specs.declared.remark.Remark.{Remark}

pub record AddsRemarks (P : List Said → Type 0) (old new : List Remark) : Type 0 where
  pub added : List Said
  pub grown : all_said new ≡ all_said old ++ added
  pub is : P added

abbrev pub maybe_said : Option Remark → List Said
maybe_said None = []
maybe_said (Some r) = remark_view r ∷ []

abbrev pub said_at : Text → Text → Location → Said
said_at kind message place = warning_at place.line place.column kind message

abbrev pub said_at_each : Text → Text → List Location → List Said
said_at_each kind message places = map (said_at kind message) places
