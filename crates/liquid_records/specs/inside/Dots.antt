-- The reading of a file's name, byte by byte.
use Rattle.std.specs.Prelude.{◌==◌, ◌&&◌, Bool, true, false, not, cond, [], ◌∷◌}
use Rattle.liquid_model.specs.Texts.{Text}

-- whether the rest of a name ends well, after a part that so far has nothing but dots, or not
abbrev pub ends_well : Bool → Text → Bool
ends_well dots [] = not dots
ends_well dots (b ∷ bs) = cond (b == 47) (cond dots false (ends_well true bs))
    (ends_well (dots && b == 46) bs)
