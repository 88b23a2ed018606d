use Rattle.std.proofs.Common.{◌≡◌, ◌++◌, drop}
use Rattle.liquid_files.specs.PartialNames.{file_places, names_of, stems_of}
use Rattle.liquid_files.proofs.partial_names.PartialNames.add_stems.Given as goal

-- the names that are there and those of what is left are all names
abbrev pub invariant-loop-file : goal.invariant-loop-file
invariant-loop-file l = names_of l.fn.self ++ stems_of (file_places l.fn.files)
    ≡ names_of l.self ++ stems_of (file_places (drop l.file-index l.fn.files))
