use Rattle.liquid_files.specs.Contents.{filled_with}
use Rattle.liquid_files.proofs.Told.{held_since, kept_both, part_made, part_taken_away}
use Rattle.liquid_files.proofs.put.new_part.Goals as goal

pub returns-in-Ok-clause-kept : goal.returns-in-Ok-clause-kept
returns-in-Ok-clause-kept g c =
    let story = g.S.FileSystem.story in
    kept_both (story c.args.system.now) (story c.make.new.self) (story c.filled.new.system)
    (part_made (story c.args.system.now) (story c.make.new.self) c.args.part.now c.requires.part c.in_ok-make.ensures.made) c.in-Ok.ensures.kept

pub returns-in-Ok-clause-held : goal.returns-in-Ok-clause-held
returns-in-Ok-clause-held g c =
    let story = g.S.FileSystem.story in
    held_since (story c.args.system.now) (story c.make.new.self) (story c.filled.new.system) c.args.part.now (filled_with c.args.content)
    (part_made (story c.args.system.now) (story c.make.new.self) c.args.part.now c.requires.part c.in_ok-make.ensures.made) c.in-Ok.ensures.held

pub returns-in-Err-clause-kept : goal.returns-in-Err-clause-kept
returns-in-Err-clause-kept g c =
    let story = g.S.FileSystem.story in
    kept_both (story c.args.system.now) (story c.filled.new.system) (story c.remove.new.self)
    (kept_both (story c.args.system.now) (story c.make.new.self) (story c.filled.new.system)
    (part_made (story c.args.system.now) (story c.make.new.self) c.args.part.now c.requires.part c.in_ok-make.ensures.made) c.in-Err.ensures.kept)
    (part_taken_away (story c.filled.new.system) (story c.remove.new.self) c.args.part.now c.remove.result c.requires.part c.remove.ensures.removed c.remove.ensures.same)
