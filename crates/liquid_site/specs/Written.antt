-- The files of pages: those that are written, and one that isn't.
use Rattle.std.specs.Prelude.{◌≡◌, ◌⊎◌, ℕ, ⊤, MatchBool, cond, codes, bytes_eq, Bool, false, []}
use Rattle.std.specs.Prelude.{◌∷◌, ◌++◌, Option, Some, None, option_map, Result, Ok, Err}
use Rattle.std.specs.Prelude.{string_bytes}
use Rattle.std.specs.List.{list_any}
use Rattle.liquid_model.specs.ErrorKinds.{is_memory}
use Rattle.liquid_model.specs.Texts.{Text}
use Rattle.liquid_model.specs.declared.error.Error.{Error}
use Rattle.liquid_model.specs.declared.error.ErrorKind.{ErrorKind}
use Rattle.liquid_model.specs.declared.error.ErrorKind.TheVariants.{Memory, Write}
use Rattle.liquid_engine.specs.Pages.{Shown}
use Rattle.liquid_site.specs.Contents.{Pages}
use Rattle.liquid_site.specs.Steps.{saturated_sum}
use Rattle.liquid_files.specs.Files.{Files, holds, with_file, is_held}
use Rattle.liquid_files.specs.Words.{protected_text}
use Rattle.liquid_files.specs.declared.disk.DiskFault.{DiskFault}
use Rattle.liquid_files.specs.declared.disk.DiskFault.TheVariants.{Protected}

-- why a page's file isn't written: memory ran out, or the disk refused it
abbrev pub IsStop : ErrorKind → Type 0
IsStop kind = (kind ≡ Memory) ⊎ (kind ≡ Write)

-- the files with each page's text in the page's file, and all others as they were
abbrev pub all_written : Text → Pages → Files → Files
all_written out [] files = files
all_written out (p ∷ ps) files = all_written out ps (with_file files (out ++ p.0) (holds p.1.text))

-- how many of the pages' files hold another text, after a count
abbrev pub count_from : ℕ → Text → Pages → Files → ℕ
count_from n out [] files = n
count_from n out (p ∷ ps) files =
    count_from (cond (is_held (files (out ++ p.0)) p.1.text) n (saturated_sum n 1)) out ps
    (with_file files (out ++ p.0) (holds p.1.text))

-- whether a path is that of a page's file
abbrev pub is_page_path : Text → Pages → Text → Bool
is_page_path out ps q = list_any (λ p. bytes_eq (out ++ p.0) q) ps

-- no file changed but those of pages
abbrev pub KeepsOtherFiles : Text → Pages → Files → Option Files → Type 0
KeepsOtherFiles out ps old None = ⊥
KeepsOtherFiles out ps old (Some new) = (q : Text) → is_page_path out ps q ≡ false → new q ≡ old q

-- what a message says of a file that isn't written
abbrev pub unwritten_message : Text → DiskFault → Text
unwritten_message path (Protected why) =
    codes "the file `" ++ path ++ codes "` can't be written: " ++ protected_text why
unwritten_message path fault = codes "the file `" ++ path ++ codes "` can't be written"

-- the writing ended at a page whose file was refused, and the message has its path and why, if it
-- is one that is never written: this file held another text, those of the pages in front hold
-- their texts, and all others are as they were
pub record IsUnwritten (out : Text) (ps : Pages) (old : Files) (new : Option Files)
    (e : Error) : Type 0 where
  pub front : Pages
  pub page : Text × Shown
  pub back : Pages
  pub all : ps ≡ front ++ page ∷ back
  pub needed : is_held (all_written out front old (out ++ page.0)) page.1.text ≡ false
  pub left : new ≡ Some (all_written out front old)
  pub why : DiskFault
  pub message : option_map string_bytes e.message ≡ Some (unwritten_message (out ++ page.0) why)

-- the page that isn't written, where that is the fault that is reported
abbrev pub TellsUnwritten : Text → Pages → Files → Option Files → Error → Type 0
TellsUnwritten out ps old new e = MatchBool (is_memory e.kind) ⊤ (IsUnwritten out ps old new e)
