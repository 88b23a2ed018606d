use Rattle.std.proofs.Common.{◌++◌, ◌∙◌, IfSome, OnOk, option_map, refl, string_bytes, subst, sym}
use Rattle.liquid_files.specs.Files.{IsSet, gone}
use Rattle.liquid_files.specs.Parts.{TakesPlace, files_below}
use Rattle.liquid_files.specs.Stories.{Between}
use Rattle.liquid_files.proofs.Told.{is_set}
use Rattle.liquid_files.proofs.page_disk.PageFilesDisk.remove.Goals as goal

pub returns-clause-put : goal.returns-clause-put
returns-clause-put g c =
    let story = g.S.FileSystem.story in
    let front = string_bytes c.args.self.now.bounds.front in
    subst (λ b. IfSome (option_map (files_below front) (story c.args.self.now.system)) (λ f. IsSet c.args.name.now gone f c.take_away.result
    (option_map (files_below (string_bytes b.front)) (story c.take_away.new.self.system)))) (sym c.take_away.ensures.bounds)
    (is_set (story c.args.self.now.system) (story c.take_away.new.self.system) front c.args.name.now (λ _. gone) (λ _. gone) c.take_away.result (λ a. refl)
    (subst (λ p. OnOk c.take_away.result (Between (TakesPlace p (λ _. gone)) (story c.args.self.now.system) (story c.take_away.new.self.system)))
    (c.as_str.ensures.value ∙ c.in_ok-path.ensures) c.take_away.ensures.placed) c.take_away.ensures.kept)
