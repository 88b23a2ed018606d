-- Two proofs that pages are the same are equal: kinds of faults differ by their numbers.
use Rattle.std.specs.Prelude.{◌≡◌, ℕ, List, [], ◌∷◌, get_or, Option, refl}
use Rattle.std.specs.Coded.{Coded, Coded-set, code_by, coded×, coded_ℕ, coded_list, coded_option}
use Rattle.liquid_model.specs.Texts.{Text}
use Rattle.liquid_model.specs.ErrorKinds.{number_of}
use Rattle.liquid_model.specs.declared.error.ErrorKind.{ErrorKind}
use Rattle.liquid_model.specs.declared.error.ErrorKind.TheVariants.{UnknownVariable, InvalidInput}
use Rattle.liquid_model.specs.declared.error.ErrorKind.TheVariants.{InvalidArgument}
use Rattle.liquid_model.specs.declared.error.ErrorKind.TheVariants.{UnexpectedValue, NumberRange}
use Rattle.liquid_model.specs.declared.error.ErrorKind.TheVariants.{DivideByZero, Float}
use Rattle.liquid_model.specs.declared.error.ErrorKind.TheVariants.{CycleBounds, ZeroColumns}
use Rattle.liquid_model.specs.declared.error.ErrorKind.TheVariants.{RangeTooLong, UnknownPartial}
use Rattle.liquid_model.specs.declared.error.ErrorKind.TheVariants.{PartialName, TooDeep}
use Rattle.liquid_model.specs.declared.error.ErrorKind.TheVariants.{DateFormat, TimezoneRange}
use Rattle.liquid_model.specs.declared.error.ErrorKind.TheVariants.{Unsupported, Memory, Write}
use Rattle.liquid_model.specs.declared.error.ErrorKind.TheVariants.{Unclosed, BadItem}
use Rattle.liquid_model.specs.declared.error.ErrorKind.TheVariants.{NumberLiteral, FloatLiteral}
use Rattle.liquid_model.specs.declared.error.ErrorKind.TheVariants.{StateWord, UnknownTag}
use Rattle.liquid_model.specs.declared.error.ErrorKind.TheVariants.{UnknownFilter, FilterArguments}
use Rattle.liquid_model.specs.declared.error.ErrorKind.TheVariants.{Expected, MissingEnd, TooNested}
use Rattle.liquid_engine.specs.Pages.{Shown}
use Rattle.liquid_site.specs.Contents.{Pages}

-- the kinds by number, from 0; numbers without a kind have `Memory`
abbrev pub kinds : List ErrorKind
kinds =
    Memory ∷ UnknownVariable ∷ InvalidInput ∷ InvalidArgument ∷ UnexpectedValue ∷ NumberRange ∷
    DivideByZero ∷ Float ∷ CycleBounds ∷ ZeroColumns ∷
    RangeTooLong ∷ UnknownPartial ∷ PartialName ∷ TooDeep ∷ DateFormat ∷ TimezoneRange ∷
    Unsupported ∷ Memory ∷ Write ∷ Memory ∷
    Memory ∷ Unclosed ∷ BadItem ∷ NumberLiteral ∷ FloatLiteral ∷ StateWord ∷ UnknownTag ∷
    UnknownFilter ∷ FilterArguments ∷ Expected ∷
    MissingEnd ∷ TooNested ∷ []

pub number_back : (kind : ErrorKind) → get_or kinds (number_of kind) Memory ≡ kind
number_back UnknownVariable = refl
number_back InvalidInput = refl
number_back InvalidArgument = refl
number_back UnexpectedValue = refl
number_back NumberRange = refl
number_back DivideByZero = refl
number_back Float = refl
number_back CycleBounds = refl
number_back ZeroColumns = refl
number_back RangeTooLong = refl
number_back UnknownPartial = refl
number_back PartialName = refl
number_back TooDeep = refl
number_back DateFormat = refl
number_back TimezoneRange = refl
number_back Unsupported = refl
number_back Memory = refl
number_back Write = refl
number_back Unclosed = refl
number_back BadItem = refl
number_back NumberLiteral = refl
number_back FloatLiteral = refl
number_back StateWord = refl
number_back UnknownTag = refl
number_back UnknownFilter = refl
number_back FilterArguments = refl
number_back Expected = refl
number_back MissingEnd = refl
number_back TooNested = refl

abbrev pub kind_code : Coded ErrorKind
kind_code = code_by ℕ coded_ℕ number_of (λ n. get_or kinds n Memory) number_back

abbrev pub text_code : Coded Text
text_code = coded_list coded_ℕ

abbrev pub shown_code : Coded Shown
shown_code = code_by (Text × Option ErrorKind) (coded× text_code (coded_option kind_code))
    (λ s. (s.text, s.fault)) (λ p. record { text = p.0; fault = p.1 }) (λ _. refl)

pub Pages-prop : (a b : Pages) → IsProp (a ≡ b)
Pages-prop a b = Coded-set (coded_list (coded× text_code shown_code)) a b
