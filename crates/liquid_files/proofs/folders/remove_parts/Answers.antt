use Rattle.liquid_files.proofs.Told.{kept_both}
use Rattle.liquid_files.proofs.folders.remove_parts.Goals as goal

pub loop-part-preserved : goal.loop-part-preserved
loop-part-preserved g c =
    let story = g.S.FileSystem.story in
    kept_both (story c.args.system.now) (story c.loop-part.system) (story c.remove_part.new.system) c.loop-part.invariant c.remove_part.ensures
