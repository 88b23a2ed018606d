use Rattle.std.proofs.Common.{◌++◌, ◌∙◌, IfSome, OnOk, option_map, string_bytes, subst, sym}
use Rattle.liquid_files.specs.Files.{IsPut, holds}
use Rattle.liquid_files.specs.Parts.{TakesPlace, files_below}
use Rattle.liquid_files.specs.Stories.{Between}
use Rattle.liquid_files.proofs.Told.{is_put}
use Rattle.liquid_files.proofs.page_disk.PageFilesDisk.write.Goals as goal

pub returns-clause-put : goal.returns-clause-put
returns-clause-put g c =
    let story = g.S.FileSystem.story in
    let front = string_bytes c.args.self.now.bounds.front in
    subst (λ b. IfSome (option_map (files_below front) (story c.args.self.now.system)) (λ f. IsPut c.args.name.now c.args.text.now f c.put.result
    (option_map (files_below (string_bytes b.front)) (story c.put.new.self.system)))) (sym c.put.ensures.bounds)
    (is_put (story c.args.self.now.system) (story c.put.new.self.system) front c.args.name.now c.args.text.now c.put.result
    (subst (λ p. OnOk c.put.result (Between (TakesPlace p (λ _. holds c.args.text.now)) (story c.args.self.now.system) (story c.put.new.self.system)))
    (c.as_str.ensures.value ∙ c.in_ok-path.ensures) c.put.ensures.placed) c.put.ensures.kept)
