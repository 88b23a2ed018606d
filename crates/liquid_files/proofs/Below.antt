-- What is read of the files after a front, but for parts.
use Rattle.std.specs.Prelude.{◌≡◌, ◌++◌, Bool, true, false, cond, Option, Some, None, IfSome, Result, Ok, Err, String, option_map}
use Rattle.std.specs.declared.alloc.Global.{Global}
use Rattle.std.specs.declared.io.ErrorKind.{ErrorKind}
use mathlib.Core.Path.{refl, sym, ap, subst, ◌∙◌}
use Rattle.liquid_model.specs.Texts.{Text}
use Rattle.liquid_files.specs.Files.{File, unreadable, IsFound}
use Rattle.liquid_files.specs.Parts.{is_part_path, without_parts, files_below}
use Rattle.liquid_files.specs.Stories.{Story}
use Rattle.liquid_files.specs.declared.disk.DiskFault.{DiskFault}
use Rattle.liquid_files.specs.declared.disk.DiskFault.TheVariants.{Memory, Refused}

-- a part can't be read
pub part_is_unreadable : (o : Option Story) (front name path : Text) (kind : ErrorKind) → path ≡ front ++ name → is_part_path path ≡ true → IfSome (option_map (files_below front) o) (λ f. IsFound (f name) (Err (Refused kind)))
unfolding without_parts
part_is_unreadable None front name path kind is part = tt
part_is_unreadable (Some s) front name path kind is part = ap (λ b. cond b unreadable (s.now (front ++ name))) (sym (ap is_part_path is) ∙ part)

-- another file is read as it is
pub read_below : (o : Option Story) (front name path : Text) (r : Result (Option (String Global)) DiskFault) → path ≡ front ++ name → is_part_path path ≡ false → IfSome o (λ s. IsFound (s.now path) r)
    → IfSome (option_map (files_below front) o) (λ f. IsFound (f name) r)
unfolding without_parts
read_below None front name path r is part found = tt
read_below (Some s) front name path r is part found =
    subst (λ file. IsFound file r) (ap s.now is ∙ sym (ap (λ b. cond b unreadable (s.now (front ++ name))) (sym (ap is_part_path is) ∙ part))) found

pub no_memory : (o : Option Story) (front name : Text) (r : Result (Option (String Global)) DiskFault) → r ≡ Err Memory → IfSome (option_map (files_below front) o) (λ f. IsFound (f name) r)
no_memory None front name r is = tt
no_memory (Some s) front name r is = subst (λ x. IsFound (files_below front s name) x) (sym is) tt
