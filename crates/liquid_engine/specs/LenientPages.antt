-- The page of a lenient run, in which a missing value is nil, beside that of the strict one.
--     ExtendsPage o p      p is o; or o ends by a kind that is forgiven, and p begins with its text
--     LenientPages, LenientHostedPages      a lenient page extends the strict one, without filters
--                                           of a host and with them
--     NoneUnknownIn      a lenient page ends by UnknownVariable only where a filter answers that
use Rattle.std.specs.Prelude.{◌≡◌, ◌⊎◌, ℕ, List, Option, Some}
use Rattle.liquid_model.specs.Texts.{Text}
use Rattle.liquid_model.specs.Data.{Datum}
use Rattle.liquid_model.specs.Maps.{Map}
use Rattle.liquid_model.specs.declared.error.ErrorKind.{ErrorKind}
use Rattle.liquid_model.specs.declared.error.ErrorKind.TheVariants.{UnknownVariable, InvalidInput}
use Rattle.liquid_model.specs.declared.error.ErrorKind.TheVariants.{UnexpectedValue}
use Rattle.liquid_core.specs.declared.missing_value.Missing.TheVariants.{IsFault, IsNil}
use Rattle.liquid_model.specs.FilterAnswers.{FilterAnswer}
use Rattle.liquid_evaluation.specs.Evaluation.{answers_with}
use Rattle.liquid_evaluation.specs.Tree.{Nodes}
use Rattle.liquid_meaning.specs.Lenient.{KnowAll}
use Rattle.liquid_engine.specs.HostedPages.{hosted_page}
use Rattle.liquid_engine.specs.LimitedPages.{IsPrefixOf}
use Rattle.liquid_engine.specs.Pages.{Shown, page_in, page_over}

-- a missing value; nil as an amount or on the left of `contains`; nil as the input of a filter
abbrev pub IsForgiven : Option ErrorKind → Type 0
IsForgiven fault = (fault ≡ Some UnknownVariable) ⊎
    ((fault ≡ Some UnexpectedValue) ⊎ (fault ≡ Some InvalidInput))

abbrev pub ExtendsPage : Shown → Shown → Type 0
ExtendsPage o p = (p ≡ o) ⊎ (IsForgiven o.fault × IsPrefixOf o.text p.text)

abbrev pub LenientPages : Type 0
LenientPages = (depth : ℕ) (partials : List (Text × Nodes)) («data» : Map Datum) (nodes : Nodes) →
    ExtendsPage (page_over depth partials «data» nodes) (page_in IsNil depth partials «data» nodes)

abbrev pub LenientHostedPages : Type 0
LenientHostedPages = (named : Text → FilterAnswer) (depth : ℕ) (partials : List (Text × Nodes))
    («data» : Map Datum) (nodes : Nodes) →
    ExtendsPage (hosted_page IsFault named depth partials «data» nodes)
    (hosted_page IsNil named depth partials «data» nodes)

abbrev pub NoneUnknownIn : Type 0
NoneUnknownIn = (named : Text → FilterAnswer) (depth : ℕ) (partials : List (Text × Nodes))
    («data» : Map Datum) (nodes : Nodes) → KnowAll (answers_with named)
    → (hosted_page IsNil named depth partials «data» nodes).fault ≡ Some UnknownVariable → ⊥
