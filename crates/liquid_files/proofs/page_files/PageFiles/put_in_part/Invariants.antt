use Rattle.std.specs.Prelude.{◌≡◌}
use Rattle.liquid_files.specs.Parts.{IsKept}
use Rattle.liquid_files.specs.Stories.{Between}
use Rattle.liquid_files.proofs.page_files.PageFiles.put_in_part.Given as goal

-- no file but parts changed so far
abbrev pub invariant-loop : goal.invariant-loop
invariant-loop g l = Between IsKept (g.S.FileSystem.story l.initial.self.system) (g.S.FileSystem.story l.self.system) × (l.self.bounds ≡ l.initial.self.bounds)
