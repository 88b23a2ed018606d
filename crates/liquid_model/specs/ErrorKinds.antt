-- Kinds of faults: their numbers and names, and those that stand outside of a template's meaning.
use Rattle.std.specs.Prelude.{◌≡◌, ℕ, Bool, true, false, List, codes, MatchBool, ⊤}
use Rattle.liquid_model.specs.declared.error.ErrorKind.{ErrorKind}
use Rattle.liquid_model.specs.declared.error.ErrorKind.TheVariants.{UnknownVariable, InvalidInput}
use Rattle.liquid_model.specs.declared.error.ErrorKind.TheVariants.{InvalidArgument}
use Rattle.liquid_model.specs.declared.error.ErrorKind.TheVariants.{UnexpectedValue, NumberRange}
use Rattle.liquid_model.specs.declared.error.ErrorKind.TheVariants.{DivideByZero, Float}
use Rattle.liquid_model.specs.declared.error.ErrorKind.TheVariants.{CycleBounds, ZeroColumns}
use Rattle.liquid_model.specs.declared.error.ErrorKind.TheVariants.{RangeTooLong, UnknownPartial}
use Rattle.liquid_model.specs.declared.error.ErrorKind.TheVariants.{PartialName, TooDeep}
use Rattle.liquid_model.specs.declared.error.ErrorKind.TheVariants.{DateFormat, TimezoneRange}
use Rattle.liquid_model.specs.declared.error.ErrorKind.TheVariants.{Unsupported, Memory, Write}
use Rattle.liquid_model.specs.declared.error.ErrorKind.TheVariants.{Unclosed, BadItem}
use Rattle.liquid_model.specs.declared.error.ErrorKind.TheVariants.{NumberLiteral, FloatLiteral}
use Rattle.liquid_model.specs.declared.error.ErrorKind.TheVariants.{StateWord, UnknownTag}
use Rattle.liquid_model.specs.declared.error.ErrorKind.TheVariants.{UnknownFilter, FilterArguments}
use Rattle.liquid_model.specs.declared.error.ErrorKind.TheVariants.{Expected, MissingEnd, TooNested}

abbrev pub is_memory : ErrorKind → Bool
is_memory Memory = true
is_memory _ = false

abbrev pub is_write : ErrorKind → Bool
is_write Write = true
is_write _ = false

-- the kinds that stand outside of the meaning: memory that was refused, and a writer that failed
abbrev pub is_refusal : ErrorKind → Bool
is_refusal Memory = true
is_refusal Write = true
is_refusal _ = false

-- the reported kind is the wanted one, unless memory ran out
abbrev pub IsKindOrMemory : ErrorKind → ErrorKind → Type 0
IsKindOrMemory wanted reported = MatchBool (is_memory reported) ⊤ (wanted ≡ reported)

-- 1 to 18 are kinds of a run, 21 to 31 of a source
abbrev pub number_of : ErrorKind → ℕ
number_of UnknownVariable = 1
number_of InvalidInput = 2
number_of InvalidArgument = 3
number_of UnexpectedValue = 4
number_of NumberRange = 5
number_of DivideByZero = 6
number_of Float = 7
number_of CycleBounds = 8
number_of ZeroColumns = 9
number_of RangeTooLong = 10
number_of UnknownPartial = 11
number_of PartialName = 12
number_of TooDeep = 13
number_of DateFormat = 14
number_of TimezoneRange = 15
number_of Unsupported = 16
number_of Memory = 17
number_of Write = 18
number_of Unclosed = 21
number_of BadItem = 22
number_of NumberLiteral = 23
number_of FloatLiteral = 24
number_of StateWord = 25
number_of UnknownTag = 26
number_of UnknownFilter = 27
number_of FilterArguments = 28
number_of Expected = 29
number_of MissingEnd = 30
number_of TooNested = 31

abbrev pub name_of : ErrorKind → List ℕ
name_of UnknownVariable = codes "UnknownVariable"
name_of InvalidInput = codes "InvalidInput"
name_of InvalidArgument = codes "InvalidArgument"
name_of UnexpectedValue = codes "UnexpectedValue"
name_of NumberRange = codes "NumberRange"
name_of DivideByZero = codes "DivideByZero"
name_of Float = codes "Float"
name_of CycleBounds = codes "CycleBounds"
name_of ZeroColumns = codes "ZeroColumns"
name_of RangeTooLong = codes "RangeTooLong"
name_of UnknownPartial = codes "UnknownPartial"
name_of PartialName = codes "PartialName"
name_of TooDeep = codes "TooDeep"
name_of DateFormat = codes "DateFormat"
name_of TimezoneRange = codes "TimezoneRange"
name_of Unsupported = codes "Unsupported"
name_of Memory = codes "Memory"
name_of Write = codes "Write"
name_of Unclosed = codes "Unclosed"
name_of BadItem = codes "BadItem"
name_of NumberLiteral = codes "NumberLiteral"
name_of FloatLiteral = codes "FloatLiteral"
name_of StateWord = codes "StateWord"
name_of UnknownTag = codes "UnknownTag"
name_of UnknownFilter = codes "UnknownFilter"
name_of FilterArguments = codes "FilterArguments"
name_of Expected = codes "Expected"
name_of MissingEnd = codes "MissingEnd"
name_of TooNested = codes "TooNested"
