use Rattle.std.proofs.Common.{ap, subst, sym}
use Rattle.liquid_files.specs.Files.{gone}
use Rattle.liquid_files.specs.Parts.{TakesPlace}
use Rattle.liquid_files.specs.Stories.{Between}
use Rattle.liquid_files.proofs.Told.{gone_from_place, placed_since}
use Rattle.liquid_files.proofs.page_files.PageFiles.take_away.Goals as goal

pub returns-clause-placed : goal.returns-clause-placed
returns-clause-placed g c =
    let story = g.S.FileSystem.story in
    subst (λ s. Between (TakesPlace c.args.path.now (λ _. gone)) (story c.args.self.now.system) (story s)) (sym c.forget.ensures.system)
    (placed_since (story c.args.self.now.system) (story c.make_folder_ready.new.self.system) (story c.remove.new.self) c.args.path.now (λ _. gone)
    c.make_folder_ready.ensures.kept (gone_from_place (story c.make_folder_ready.new.self.system) (story c.remove.new.self) c.args.path.now c.in_ok-removed.ensures.page c.in_ok-remove.ensures.removed))
