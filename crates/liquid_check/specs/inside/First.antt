-- The first of what is found follows from nothing.
use Rattle.std.specs.Prelude.{◌≡◌, false, List, [], ◌∷◌, ⊤}
use Rattle.liquid_check.specs.Rounds.{Found}

abbrev pub IsFirstIndependent : List Found → Type 0
IsFirstIndependent [] = ⊤
IsFirstIndependent (f ∷ fs) = f.follows ≡ false
