-- What stands at a path.
--     is_own standing      a file of its own or nothing, so that a page can take its place
--     IsNoSource cmp sources standing      no file among those that the call reads, in the order
--       of ids
use Rattle.std.specs.Prelude.{◌≡◌, Bool, true, false, ⊤}
use Rattle.std.specs.BTreeSet.{BTreeSet, contains}
use Rattle.std.specs.declared.cmp.Ordering.{Ordering}
use Rattle.liquid_files.specs.declared.system.FileId.{FileId}
use Rattle.liquid_files.specs.declared.system.Standing.{Standing}
use Rattle.liquid_files.specs.declared.system.Standing.TheVariants.{Nothing, File, Other}

abbrev pub is_own : Standing → Bool
is_own Nothing = true
is_own (File id mode) = true
is_own (Other occupant) = false

abbrev pub IsNoSource : (FileId → FileId → Ordering) → BTreeSet FileId → Standing → Type 0
IsNoSource cmp sources (File id mode) = contains cmp sources id ≡ false
IsNoSource cmp sources _ = ⊤
