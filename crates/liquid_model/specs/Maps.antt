-- Maps from names, as functions.
use Rattle.std.specs.Prelude.{Bool, cond, List, [], ◌∷◌, bytes_eq, Option, Some, None}
use Rattle.std.specs.Map.{update}
use Rattle.liquid_model.specs.Texts.{Text, ◌else◌, same_text}

abbrev pub Map : Type 0 → Type 0
Map X = Text → Option X

unfoldable pub empty : {X : Type 0} → Map X
empty name = None

unfoldable pub insert : {X : Type 0} → Map X → Text → X → Map X
insert m name x = update bytes_eq m name (Some x)

unfoldable pub retain_keys : {X : Type 0} → Map X → (Text → Bool) → Map X
retain_keys m N name = cond (N name) (m name) None

unfoldable pub merged : {X : Type 0} → Map X → Map X → Map X
merged inner outer name = inner name else outer name

unfoldable pub listed : {X : Type 0} → List (Text × X) → Map X
listed [] name = None
listed (p ∷ ps) name = cond (same_text p.0 name) (Some p.1) (listed ps name)
