use Rattle.std.proofs.Common.{ap, subst, sym}
use Rattle.liquid_files.specs.Contents.{filled_with}
use Rattle.liquid_files.specs.Parts.{TakesPlace}
use Rattle.liquid_files.specs.Stories.{Between}
use Rattle.liquid_files.proofs.Told.{kept_both, on_err, placed_since}
use Rattle.liquid_files.proofs.page_files.PageFiles.put.Goals as goal

pub returns-in_err-put_in_part-clause-kept : goal.returns-in_err-put_in_part-clause-kept
returns-in_err-put_in_part-clause-kept g c =
    let story = g.S.FileSystem.story in
    on_err c.from_residual-in_err-put_in_part.result
    (kept_both (story c.args.self.now.system) (story c.make_folder_ready.new.self.system) (story c.put_in_part.new.self.system) c.make_folder_ready.ensures.kept
    c.in_err-put_in_part.ensures.kept)

pub returns-clause-placed : goal.returns-clause-placed
returns-clause-placed g c =
    let story = g.S.FileSystem.story in
    subst (λ s. Between (TakesPlace c.args.path.now (filled_with c.args.content)) (story c.args.self.now.system) (story s)) (sym c.forget.ensures.system)
    (placed_since (story c.args.self.now.system) (story c.make_folder_ready.new.self.system) (story c.put_in_part.new.self.system) c.args.path.now (filled_with c.args.content)
    c.make_folder_ready.ensures.kept c.in_ok-put_in_part.ensures.placed)
