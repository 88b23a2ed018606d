use denote.Shadow.{shadow}
use denote.Text.{Utf8}
use Rattle.liquid_warnings.proofs.foreign.foreign_in.Given as goal

-- what is left is a text
abbrev pub invariant-pieces : goal.invariant-pieces
invariant-pieces l = shadow (Utf8 l.rest)
