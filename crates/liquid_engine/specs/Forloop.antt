-- What `forloop` was before a loop, as a `ForloopObject` holds it.
use Rattle.std.specs.Borrow.{Bor}
use Rattle.std.specs.Prelude.{Option, Some, None}
use Rattle.liquid_model.specs.Data.{Datum, nil}
use Rattle.liquid_model.specs.View.{view}
use Rattle.liquid_model.specs.declared.value.Value.{Value}

-- nil where there is none
abbrev pub parent_seen : Option (Bor Value) → Datum
parent_seen None = nil
parent_seen (Some r) = view r.now
