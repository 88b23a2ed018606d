-- Whether members are there.
use Rattle.std.specs.Prelude.{◌≡◌, ◌↔◌, Bool, true, false, IsTrue, length, List, [], ◌∷◌, String}
use Rattle.std.specs.declared.alloc.Global.{Global}
use mathlib.Core.Path.{refl}
use Rattle.liquid_model.specs.UseViews.{members_view}
use Rattle.liquid_model.specs.declared.uses.Use.{Use}
use Rattle.liquid_json.specs.Schemas.{are_none}

pub none_there : (b : Bool) (ms : List (String Global × Use)) → IsTrue b ↔ (length ms ≡ 0) → b ≡ are_none (members_view ms)
none_there true [] h = refl
none_there false [] h = cc (h.1 refl)
none_there true (m ∷ ms) h = cc (h.0 refl)
none_there false (m ∷ ms) h = refl
