-- What a message says of a file that is never written.
use Rattle.std.specs.Prelude.{◌++◌, codes, string_bytes}
use Rattle.liquid_model.specs.Quotes.{quotation}
use Rattle.liquid_model.specs.Texts.{Text}
use Rattle.liquid_files.specs.declared.disk.Protected.{Protected}
use Rattle.liquid_files.specs.declared.disk.Protected.TheVariants.{Part, Hidden, Occupied, Source}
use Rattle.liquid_files.specs.declared.disk.Protected.TheVariants.{Page, Outside}
use Rattle.liquid_files.specs.declared.system.Occupant.{Occupant}
use Rattle.liquid_files.specs.declared.system.Occupant.TheVariants.{Link, Folder, Pipe, Device}

abbrev pub occupant_text : Occupant → Text
occupant_text Link = codes "a link is in its place"
occupant_text Folder = codes "a folder is in its place"
occupant_text Pipe = codes "a pipe is in its place"
occupant_text Device = codes "a device is in its place"

abbrev pub protected_text : Protected → Text
protected_text Part = codes "names that end in `.bikleinu-part` are those of unfinished pages"
protected_text Hidden = codes "a part of its name begins with a dot that the pattern doesn't write"
protected_text (Occupied occupant) = occupant_text occupant
protected_text Source = codes "this call reads it"
protected_text (Page earlier) = codes "it is the file of an earlier page, `"
    ++ (quotation (string_bytes earlier) ++ codes "`")
protected_text Outside = codes "its folder leads out of the folder of the pages"
