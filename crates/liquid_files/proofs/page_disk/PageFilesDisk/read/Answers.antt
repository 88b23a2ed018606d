use Rattle.std.proofs.Common.{◌∙◌, ap, string_bytes, sym}
use Rattle.liquid_files.specs.Parts.{is_part_path}
use Rattle.std.proofs.lemmas.Result.{err_from_is_err_and}
use Rattle.std.proofs.Common.{Err}
use Rattle.std.specs.declared.io.ErrorKind.TheVariants.{InvalidFilename}
use Rattle.liquid_files.proofs.Below.{no_memory, part_is_unreadable, read_below}
use Rattle.liquid_files.proofs.page_disk.PageFilesDisk.read.Goals as goal

pub returns-in_err-path : goal.returns-in_err-path
returns-in_err-path g c =
    let e = err_from_is_err_and c.from_residual.result c.from_residual.ensures.1 in
    no_memory (g.S.FileSystem.story c.args.self.now.system) (string_bytes c.args.self.now.bounds.front) c.args.name.now _ (e.1 ∙ ap (λ x. Err x) e.2)

pub returns-then-is_part_path : goal.returns-then-is_part_path
returns-then-is_part_path g c =
    part_is_unreadable (g.S.FileSystem.story c.args.self.now.system) (string_bytes c.args.self.now.bounds.front) c.args.name.now c.as_str.result.now InvalidFilename
    (c.as_str.ensures.value ∙ c.in_ok-path.ensures) (sym c.is_part_path.ensures ∙ c.if-is_part_path.true)

pub returns : goal.returns
returns g c =
    read_below (g.S.FileSystem.story c.args.self.now.system) (string_bytes c.args.self.now.bounds.front) c.args.name.now c.as_str-2.result.now _
    (c.as_str-2.ensures.value ∙ c.in_ok-path.ensures)
    (ap is_part_path (c.as_str-2.ensures.value ∙ sym c.as_str.ensures.value) ∙ sym c.is_part_path.ensures ∙ c.if-is_part_path.false) c.read.ensures
