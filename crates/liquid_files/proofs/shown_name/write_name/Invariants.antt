use Rattle.std.proofs.Common.{◌≡◌, ◌++◌, List, ℕ}
use Rattle.std.specs.Fmt.{HasWritten, IsPlainFormatter}
use Rattle.std.specs.Str.{chars, IsUtf8}
use Rattle.liquid_files.specs.ShownNames.{shown_letters, shown_name}
use Rattle.liquid_files.proofs.shown_name.write_name.Given as goal

-- what was written and what is left make the whole
abbrev pub invariant-loop-letter : goal.invariant-loop-letter
invariant-loop-letter g l =
    IsUtf8 l.rest.rest.now × (IsPlainFormatter l.initial.f → (done : List ℕ) × HasWritten g.W.Write.write_str_gives l.initial.f done l.f
    × (done ++ shown_letters (chars l.rest.rest.now) ≡ shown_name l.name))
