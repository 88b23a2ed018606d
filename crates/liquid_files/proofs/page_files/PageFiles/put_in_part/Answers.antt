use Rattle.std.proofs.Common.{◌∙◌}
use Rattle.liquid_files.specs.Contents.{filled_with}
use Rattle.liquid_files.proofs.Told.{kept_both, placed_since}
use Rattle.liquid_files.proofs.page_files.PageFiles.put_in_part.Goals as goal

pub returns-in-Ok-clause-placed : goal.returns-in-Ok-clause-placed
returns-in-Ok-clause-placed g c =
    let story = g.S.FileSystem.story in
    placed_since (story c.args.self.now.system) (story c.loop.self.system) (story c.put_in_new_part.new.self.system) c.args.draft.path.now (filled_with c.args.draft.content)
    c.loop.invariant.0 c.in-Ok.ensures.placed

pub returns-then-not-is_tried_again-clause-kept : goal.returns-then-not-is_tried_again-clause-kept
returns-then-not-is_tried_again-clause-kept g c =
    let story = g.S.FileSystem.story in
    kept_both (story c.args.self.now.system) (story c.loop.self.system) (story c.put_in_new_part.new.self.system) c.loop.invariant.0 c.in-Err.ensures.kept

pub loop-preserved : goal.loop-preserved
loop-preserved g c =
    let story = g.S.FileSystem.story in (
      kept_both (story c.args.self.now.system) (story c.loop.self.system) (story c.put_in_new_part.new.self.system) c.loop.invariant.0 c.in-Err.ensures.kept,
      c.put_in_new_part.ensures.bounds ∙ c.loop.invariant.1,
    )
