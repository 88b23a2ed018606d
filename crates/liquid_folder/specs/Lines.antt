-- What a line of standard input asks for.
--     IsLineOf folder line asked      asked is what this line may ask for
use Rattle.std.specs.Prelude.{◌≡◌, ◌⊎◌, List, [], string_bytes, true, ⊤}
use Rattle.liquid_model.specs.Texts.{Text}
use Rattle.liquid_site.specs.declared.folder.Changed.TheVariants.{Data, Page, Partial}
use Rattle.liquid_site.specs.declared.folder.Folder.{Folder}
use Rattle.liquid_folder.specs.Paths.{IsFileIn, steps}
use Rattle.liquid_folder.specs.declared.changes.Line.{Line}
use Rattle.liquid_folder.specs.declared.changes.Line.TheVariants.{Round, File, LeftOut, NoFile}

-- a round, the data, or a page or a partial by its name in the folder of these
abbrev pub IsLineOf : Folder → Text → Line → Type 0
IsLineOf folder line Round = line ≡ []
IsLineOf folder line (File Data) = steps line ≡ steps (string_bytes folder.«data»)
IsLineOf folder line (File (Page name)) =
    IsFileIn (string_bytes folder.pages) line (string_bytes name)
IsLineOf folder line (File (Partial name)) =
    IsFileIn (string_bytes folder.partials) line (string_bytes name)
IsLineOf folder line LeftOut = ⊤
IsLineOf folder line NoFile = ⊤
