-- What a reader answers.
use Rattle.std.specs.Prelude.{◌≡◌, ◌⊎◌, ℕ, Option, Some, None, Result, Ok, Err, []}
use Rattle.liquid_model.specs.declared.error.ErrorKind.{ErrorKind}
use Rattle.liquid_model.specs.declared.error.ErrorKind.TheVariants.{Memory}
use Rattle.liquid_lexer.specs.declared.fault.FaultKind.{FaultKind}
use Rattle.liquid_lexer.specs.declared.fault.FaultKind.TheVariants as faults
use Rattle.liquid_lexer.specs.declared.fault.ParseError.{ParseError}
use Rattle.liquid_lexer.specs.declared.fault.ParseError.TheVariants as errors
use Rattle.liquid_lexer.specs.declared.expectation.Expectation.{Expectation}
use Rattle.liquid_lexer.specs.declared.expectation.Expectation.TheVariants.{End}
use Rattle.liquid_model.specs.Texts.{Text}
use Rattle.liquid_model.specs.declared.error.ErrorKind.TheVariants as kinds

-- memory aside, nothing is to be read there; which fault it is isn't said
abbrev pub Fails : {Y : Type 0} → ParseError → Option Y → Type 0
Fails errors.Memory read = Unit {0}
Fails (errors.Fault f) read = read ≡ None

-- what was read, seen by the view, is what reading gives
abbrev pub Parses : {X Y : Type 0} → (X → Y) → Result X ParseError → Option Y → Type 0
Parses view (Ok x) read = read ≡ Some (view x)
Parses view (Err e) read = Fails e read

abbrev pub kind_of : FaultKind → ErrorKind
kind_of faults.Unclosed = kinds.Unclosed
kind_of faults.BadItem = kinds.BadItem
kind_of faults.NumberLiteral = kinds.NumberLiteral
kind_of faults.FloatLiteral = kinds.FloatLiteral
kind_of faults.StateWord = kinds.StateWord
kind_of faults.UnknownTag = kinds.UnknownTag
kind_of faults.UnknownFilter = kinds.UnknownFilter
kind_of faults.FilterArguments = kinds.FilterArguments
kind_of faults.Expected = kinds.Expected
kind_of faults.MissingEnd = kinds.MissingEnd
kind_of faults.TooNested = kinds.TooNested

-- a want of memory is reported as such; a fault by its kind, unless its message has no room
abbrev pub TellsOf : ParseError → ErrorKind → Type 0
TellsOf errors.Memory reported = reported ≡ Memory
TellsOf (errors.Fault f) reported = (reported ≡ kind_of f.kind) ⊎ (reported ≡ Memory)

-- a fault of this kind, and no want of memory
abbrev pub IsOfKind : FaultKind → ParseError → Type 0
IsOfKind kind errors.Memory = ⊥
IsOfKind kind (errors.Fault f) = f.kind ≡ kind

-- a fault at the place `remaining` bytes before the end of the source, and not refused memory
abbrev pub IsAt : ℕ → ParseError → Type 0
IsAt remaining errors.Memory = ⊥
IsAt remaining (errors.Fault f) = f.remaining ≡ remaining

-- the name of the tag that is wanted as the end of a block, where one is
abbrev pub end_of : Expectation → Text
end_of (End name) = name.now
end_of _ = []
