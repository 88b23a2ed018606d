use Rattle.std.proofs.Common.{Ok, OnOk, subst, sym, ap}
use Rattle.liquid_files.specs.Contents.{filled_with}
use Rattle.liquid_files.specs.Parts.{IsKept}
use Rattle.liquid_files.specs.Stories.{Between}
use Rattle.liquid_files.proofs.Told.{Held, filled_holds, on_ok, part_changed, part_filled}
use Rattle.liquid_files.proofs.put.filled.Goals as goal

pub returns-in_err-fill-clause-kept : goal.returns-in_err-fill-clause-kept
returns-in_err-fill-clause-kept g c =
    let story = g.S.FileSystem.story in
    part_changed (story c.args.system.now) (story c.fill.new.self) c.args.part.now c.requires.part c.in_err-fill.ensures.unfilled

pub returns-clause-kept : goal.returns-clause-kept
returns-clause-kept g c =
    let story = g.S.FileSystem.story in
    subst (λ n. Between IsKept (story c.args.system.now) n) (sym c.flush.ensures)
    (part_filled (story c.args.system.now) (story c.fill.new.self) c.args.part.now (filled_with c.args.content) c.requires.part c.in_ok-fill.ensures.filled)

pub returns-clause-held : goal.returns-clause-held
returns-clause-held g c =
    let story = g.S.FileSystem.story in
    let there : Between (Held c.args.part.now (filled_with c.args.content)) (story c.args.system.now) (story c.flush.new.self) =
    subst (λ n. Between (Held c.args.part.now (filled_with c.args.content)) (story c.args.system.now) n) (sym c.flush.ensures)
    (filled_holds (story c.args.system.now) (story c.fill.new.self) c.args.part.now c.args.content c.requires.source c.in_ok-fill.ensures.filled) in
    on_ok c.flush.result there
