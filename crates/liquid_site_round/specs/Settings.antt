-- Files that are set one after another.
--     all_set settings files      the files after all of them
--     AreSet settings old result new      all of them are set, or, where that ends before, those
--       in front
use Rattle.std.specs.Prelude.{◌≡◌, List, [], ◌∷◌, ◌++◌, Option, Some, Result, Ok, Err}
use Rattle.liquid_model.specs.Texts.{Text}
use Rattle.liquid_files.specs.Files.{File, Files, with_file}

-- the path of a file, and what it is then, by the files before
abbrev pub FileSetting : Type 0
FileSetting = Text × (Files → File)

abbrev pub all_set : List FileSetting → Files → Files
all_set [] files = files
all_set (s ∷ ss) files = all_set ss (with_file files s.0 (s.1 files))

-- the files after the first of them, the others being left
abbrev pub IsFrontSet : List FileSetting → Files → Option Files → Type 0
IsFrontSet settings old new = (front : List FileSetting) × (back : List FileSetting) ×
    (settings ≡ front ++ back) × (new ≡ Some (all_set front old))

abbrev pub AreSet : {E : Type 0} → List FileSetting → Files → Result (Unit {0}) E →
    Option Files → Type 0
AreSet settings old (Ok u) new = new ≡ Some (all_set settings old)
AreSet settings old (Err e) new = IsFrontSet settings old new
