use Rattle.liquid_files.specs.Parts.{IsKept}
use Rattle.liquid_files.specs.Stories.{Between}
use Rattle.liquid_files.proofs.folders.remove_parts.Given as goal

-- no file but parts changed so far
abbrev pub invariant-loop-part : goal.invariant-loop-part
invariant-loop-part g l = Between IsKept (g.S.FileSystem.story l.initial.system) (g.S.FileSystem.story l.system)
