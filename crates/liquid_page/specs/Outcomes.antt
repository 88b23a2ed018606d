-- The program's status, and what it tells on standard error.
use Rattle.std.specs.Prelude.{◌≡◌, ℕ, List, [], ◌++◌, codes, string_bytes}
use Rattle.liquid_model.specs.Errors.{error_text}
use Rattle.liquid_model.specs.declared.error.ErrorKind.TheVariants.{Memory}
use Rattle.liquid_files.specs.ShownPaths.{shown_path}
use Rattle.liquid_page.specs.declared.outcome.Outcome.{Outcome}
use Rattle.liquid_page.specs.declared.outcome.Outcome.TheVariants.{Done, Usage, Unreadable, Fault}

abbrev pub outcome_status : Outcome → ℕ
outcome_status Done = 0
outcome_status (Unreadable file) = 1
outcome_status (Fault e) = 1
outcome_status Usage = 2

abbrev pub outcome_line : Outcome → List ℕ
outcome_line Done = []
outcome_line (Unreadable file) = codes "error: Read: " ++ shown_path (string_bytes file)
outcome_line (Fault e) = codes "error: " ++ error_text e
outcome_line Usage = codes "usage: liquid_page TEMPLATE DATA [NAME=FILE ..]"

-- memory ran out
abbrev pub IsOutOfMemory : Outcome → Type 0
IsOutOfMemory (Fault e) = e.kind ≡ Memory
IsOutOfMemory _ = ⊥
