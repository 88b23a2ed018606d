-- What Liquid for Ruby does otherwise is of its own sort of warnings, and comes after the doubts.
use Rattle.std.proofs.Common.{◌≡◌, Bool, true, false, List, [], Option, Some, None, option_map, refl, subst, sym}
use Rattle.std.specs.Prelude.{All, IfSome}
use Rattle.liquid_model.specs.Texts.{Text}
use Rattle.liquid_syntax.specs.declared.positions.Position.{Position}
use Rattle.liquid_warnings.specs.declared.difference.Difference.{Difference}
use Rattle.liquid_warnings.specs.Differences.{AreOfData, IsOfRuby, difference_said}
use Rattle.liquid_warnings.specs.Ported.{is_for_ruby}
use Rattle.liquid_warnings.specs.Remarks.{Said, remark_view}
use Rattle.liquid_warnings.specs.Sorts.{IsDoubt, OnlyWhere}
use Rattle.liquid_warnings.specs.declared.remark.Remark.{Remark}
use Rattle.liquid_warnings.specs.declared.written_for.WrittenFor.{WrittenFor}
use Rattle.liquid_warnings.proofs.AddedRemarks.{adds_none, none_in_order, none_where}
use Rattle.liquid_warnings.specs.inside.Added.{AddsRemarks}
use Rattle.std.proofs.lemmas.List.Elements.{All-nil}

all_some : (o : Option Said) (p : Said → Type 0) (r : Option Remark) → option_map remark_view r ≡ o → IfSome o p → IfSome r (λ w. p (remark_view w))
all_some o p None is one = tt
all_some o p (Some r) is one = subst (λ q. IfSome q p) (sym is) one

said_is : (position : Position) (path : Text) (o : Option Difference) → IfSome (option_map (difference_said position path) o) IsOfRuby
said_is position path None = tt
said_is position path (Some d) = (path, d, (position.line, position.column, refl))

pub is_difference : (position : Position) (path : Text) (o : Option Difference) (r : Option Remark) → option_map remark_view r ≡ option_map (difference_said position path) o
    → IfSome r (λ w. IsOfRuby (remark_view w))
is_difference position path o r is = all_some _ IsOfRuby r is (said_is position path o)

none_of_data : (e : WrittenFor) → AreOfData e []
none_of_data e = none_in_order (All IsDoubt) (OnlyWhere (is_for_ruby e) (All IsOfRuby)) (All-nil IsDoubt) (none_where (is_for_ruby e) IsOfRuby)

nowhere : (b : Bool) (e : WrittenFor) → OnlyWhere b (AreOfData e) []
nowhere true e = none_of_data e
nowhere false e = refl

-- none where nothing is looked at
pub adds_no_data : (b : Bool) (e : WrittenFor) (rs : List Remark) → AddsRemarks (OnlyWhere b (AreOfData e)) rs rs
adds_no_data b e rs = adds_none (OnlyWhere b (AreOfData e)) rs (nowhere b e)
