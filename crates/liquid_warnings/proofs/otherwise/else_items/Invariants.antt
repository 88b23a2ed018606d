use denote.Shadow.{shadow}
use denote.Text.{Utf8}
use Rattle.std.proofs.Common.{◌<◌, length}
use Rattle.liquid_warnings.proofs.otherwise.else_items.Given as goal

-- there is room for one more, and what is left is a text
abbrev pub invariant-pieces : goal.invariant-pieces
invariant-pieces l = shadow (Utf8 l.rest) × (length l.places.items < 100)
