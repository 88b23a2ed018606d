-- The code's steps, as they were read.
use Rattle.std.specs.Prelude.{ℕ, List, Vec, map, Option, Some, None}
use Rattle.std.specs.Option.{option_map}
use Rattle.std.specs.declared.alloc.Global.{Global}
use denote.Bor.{Bor}
use Rattle.liquid_model.specs.Data.{Datum}
use Rattle.liquid_model.specs.View.{view}
use Rattle.liquid_model.specs.declared.value.Value.{Value}

abbrev pub path_view : Option (Vec Value Global) → Option (List Datum)
path_view o = option_map (λ v. map view v.items) o

abbrev pub step_view : Option (Value × Bor (List ℕ)) → Option (Datum × List ℕ)
step_view None = None
step_view (Some x) = Some (view x.0, x.1.now)
