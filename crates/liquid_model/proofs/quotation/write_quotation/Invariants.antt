use Rattle.std.proofs.Common.{◌≡◌, ◌++◌, List, ℕ}
use Rattle.std.specs.Fmt.{HasWritten, IsPlainFormatter}
use Rattle.std.specs.Str.{chars, IsUtf8}
use Rattle.liquid_model.specs.Quotes.{quotation, quoted}
use Rattle.liquid_model.proofs.quotation.write_quotation.Given as goal

-- what was written and what is left make the whole
abbrev pub invariant-loop-letter : goal.invariant-loop-letter
invariant-loop-letter g l =
    IsUtf8 l.rest.rest.now × (IsPlainFormatter l.initial.f → (done : List ℕ) × HasWritten g.W.Write.write_str_gives l.initial.f done l.f
    × (done ++ quoted l.left (chars l.rest.rest.now) ≡ quotation l.text))
