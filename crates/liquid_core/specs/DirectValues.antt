-- Short answers about the value of a name or an expression.
use Rattle.std.specs.Prelude.{◌≡◌, ⊤, Option, Some}
use Rattle.liquid_model.specs.Data.{Datum, number, truth}
use Rattle.liquid_model.specs.Maps.{Map}
use Rattle.liquid_model.specs.View.{view}
use Rattle.liquid_core.specs.LoopFrames.{frame_object}
use Rattle.liquid_core.specs.declared.resolved.DirectValue.{DirectValue}
use Rattle.liquid_core.specs.declared.resolved.DirectValue.TheVariants.{Held, Number, Truth}
use Rattle.liquid_core.specs.declared.resolved.DirectValue.TheVariants.{Loop, Nothing, Unknown}

-- the value is that of the short answer, or that of the outer scopes, or the answer leaves it open;
-- a loop's object is the one over some outer names
abbrev pub DirectlyIs : DirectValue → Option Datum → Option Datum → Type 0
DirectlyIs (Held v) is enclosing = Some (view v.now) ≡ is
DirectlyIs (Number n) is enclosing = Some (number n) ≡ is
DirectlyIs (Truth b) is enclosing = Some (truth b) ≡ is
DirectlyIs (Loop t) is enclosing = (local : Map Datum) × (Some (frame_object t.now local) ≡ is)
DirectlyIs Nothing is enclosing = enclosing ≡ is
DirectlyIs Unknown is enclosing = ⊤
