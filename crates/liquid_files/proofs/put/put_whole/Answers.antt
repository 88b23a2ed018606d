use Rattle.liquid_files.specs.Contents.{filled_with}
use Rattle.liquid_files.proofs.Told.{kept_both, kept_same, part_taken_away, placed}
use Rattle.liquid_files.proofs.put.put_whole.Goals as goal

pub returns-in-Err-clause-kept : goal.returns-in-Err-clause-kept
returns-in-Err-clause-kept g c =
    let story = g.S.FileSystem.story in
    kept_both (story c.args.system.now) (story c.new_part.new.system) (story c.remove.new.self) c.new_part.ensures.kept
    (part_taken_away (story c.new_part.new.system) (story c.remove.new.self) c.args.part.now c.remove.result c.requires.part c.remove.ensures.removed c.remove.ensures.same)

pub returns-in-Ok-clause-placed : goal.returns-in-Ok-clause-placed
returns-in-Ok-clause-placed g c =
    let story = g.S.FileSystem.story in
    placed (story c.args.system.now) (story c.new_part.new.system) (story c.rename.new.self) c.args.part.now c.args.draft.path.now (filled_with c.args.draft.content)
    c.requires.part c.requires.page c.new_part.ensures.kept c.in_ok-id.ensures.held c.in-Ok.ensures.renamed

pub returns-in-Err-rename-clause-kept : goal.returns-in-Err-rename-clause-kept
returns-in-Err-rename-clause-kept g c =
    let story = g.S.FileSystem.story in
    kept_both (story c.args.system.now) (story c.rename.new.self) (story c.remove-in-Err-rename-2.new.self)
    (kept_both (story c.args.system.now) (story c.new_part.new.system) (story c.rename.new.self) c.new_part.ensures.kept
    (kept_same (story c.new_part.new.system) (story c.rename.new.self) c.in-Err-rename.ensures.same))
    (part_taken_away (story c.rename.new.self) (story c.remove-in-Err-rename-2.new.self) c.args.part.now c.remove-in-Err-rename-2.result c.requires.part c.remove-in-Err-rename-2.ensures.removed c.remove-in-Err-rename-2.ensures.same)
