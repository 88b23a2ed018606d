use Rattle.std.proofs.Common.{◌≡◌, ◌++◌, List, drop}
use Rattle.liquid_warnings.specs.Warnings.{AreWarned, lists_of}
use Rattle.liquid_warnings.specs.declared.remark.Remark.{Remark}
use Rattle.liquid_warnings.proofs.warnings.warnings_of.Given as goal

-- lists for the files that are left make lists for all
abbrev pub invariant-loop-file : goal.invariant-loop-file
invariant-loop-file l = (rest : List (List Remark)) → AreWarned l.given (drop l.file-index l.files) rest → AreWarned l.given l.files (lists_of l.warnings.items ++ rest)
