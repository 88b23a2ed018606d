use Rattle.std.proofs.Common.{◌≡◌}
use Rattle.liquid_files.proofs.folders.flush_folders.Given as goal

abbrev pub invariant-loop-folder : goal.invariant-loop-folder
invariant-loop-folder g l = g.S.FileSystem.story l.system ≡ g.S.FileSystem.story l.fn.system
