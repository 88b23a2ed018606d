use Rattle.std.proofs.Common.{◌++◌, ◌∙◌, IfSome, OnOk, ap, option_map, refl, string_bytes, subst, sym}
use Rattle.liquid_files.specs.Files.{IsSet}
use Rattle.liquid_files.specs.Parts.{TakesPlace, files_below}
use Rattle.liquid_files.specs.Stories.{Between}
use Rattle.liquid_files.proofs.Told.{is_set}
use Rattle.liquid_files.proofs.page_disk.PageFilesDisk.copy.Goals as goal

pub returns-clause-placed : goal.returns-clause-placed
returns-clause-placed g c =
    let story = g.S.FileSystem.story in
    let front = string_bytes c.args.self.now.bounds.front in
    let placed = subst (λ p. OnOk c.put.result (Between (TakesPlace p (λ f. f c.as_str-3.result.now)) (story c.args.self.now.system) (story c.put.new.self.system)))
    (c.as_str-2.ensures.value ∙ c.in_ok-path.ensures) c.put.ensures.placed in
    subst (λ p. OnOk c.put.result (Between (TakesPlace (front ++ c.args.name.now) (λ f. f p)) (story c.args.self.now.system) (story c.put.new.self.system)))
    (c.as_str-3.ensures.value ∙ c.in_ok-source.ensures) placed

pub returns-clause-put : goal.returns-clause-put
returns-clause-put g c =
    let story = g.S.FileSystem.story in
    let front = string_bytes c.args.self.now.bounds.front in
    subst (λ b. IfSome (option_map (files_below front) (story c.args.self.now.system)) (λ f. IsSet c.args.name.now (f c.args.from.now) f c.put.result
    (option_map (files_below (string_bytes b.front)) (story c.put.new.self.system)))) (sym c.put.ensures.bounds)
    (is_set (story c.args.self.now.system) (story c.put.new.self.system) front c.args.name.now (λ f. f (front ++ c.args.from.now)) (λ f. f c.args.from.now) c.put.result (λ a. refl)
    (returns-clause-placed g c) c.put.ensures.kept)
