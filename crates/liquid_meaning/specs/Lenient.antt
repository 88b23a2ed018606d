-- A lenient run, in which a missing value is nil, beside the strict one, which ends where it needs
-- one, and where a nil that is there is refused.
--     strictly e, leniently e      e, in which a missing value is a fault, or nil
--     Extends o p      p is o; or o ends by a kind that is forgiven, and p begins with its text
--     LenientExtends      a lenient run extends the strict one
--     NoneUnknown      a lenient run ends by UnknownVariable only where a filter answers that
use Rattle.std.specs.Prelude.{◌≡◌, ◌⊎◌, ◌++◌, ℕ, List, Result, Err}
use Rattle.liquid_model.specs.Texts.{Text}
use Rattle.liquid_model.specs.Data.{Datum}
use Rattle.liquid_model.specs.declared.error.ErrorKind.{ErrorKind}
use Rattle.liquid_model.specs.declared.error.ErrorKind.TheVariants.{UnknownVariable, InvalidInput}
use Rattle.liquid_model.specs.declared.error.ErrorKind.TheVariants.{UnexpectedValue}
use Rattle.liquid_core.specs.Environment.{Environment}
use Rattle.liquid_core.specs.declared.missing_value.Missing.TheVariants.{IsFault, IsNil}
use Rattle.liquid_evaluation.specs.Tree.{Filter, Nodes}
use Rattle.liquid_evaluation.specs.Evaluation.{FilterAnswers}
use Rattle.liquid_meaning.specs.Runs.{Outcome}
use Rattle.liquid_meaning.specs.Meaning.{Setting, meaning}

abbrev pub strictly : Environment → Environment
strictly e = record e { missing = IsFault }

abbrev pub leniently : Environment → Environment
leniently e = record e { missing = IsNil }

-- u is t, and what follows it
abbrev pub IsBeginningOf : Text → Text → Type 0
IsBeginningOf t u = (rest : Text) × (u ≡ t ++ rest)

-- the same text and end, and an environment that is the same, but lenient
abbrev pub made_lenient : {A : Type 0} → Outcome A → Outcome A
made_lenient o = record o { environment = leniently o.environment }

-- the kinds of faults that a lenient run may go on after: a missing value; nil as an amount or on
-- the left of `contains`; nil as the input of a filter
abbrev pub EndsForgiven : {A : Type 0} → Result A ErrorKind → Type 0
EndsForgiven end = (end ≡ Err UnknownVariable) ⊎
    ((end ≡ Err UnexpectedValue) ⊎ (end ≡ Err InvalidInput))

abbrev pub Extends : {A : Type 0} → Outcome A → Outcome A → Type 0
Extends o p = (p ≡ made_lenient o) ⊎ (EndsForgiven o.end × IsBeginningOf o.text p.text)

abbrev pub LenientExtends : Type 0
LenientExtends = (setting : Setting) (depth : ℕ) (nodes : Nodes) (e : Environment) →
    Extends (meaning setting depth nodes (strictly e)) (meaning setting depth nodes (leniently e))

-- no filter answers UnknownVariable
abbrev pub KnowAll : FilterAnswers → Type 0
KnowAll answers = (filter : Filter) (input : Datum) (arguments : List Datum) →
    answers filter input arguments ≡ Err UnknownVariable → ⊥

abbrev pub NoneUnknown : Type 0
NoneUnknown = (setting : Setting) (depth : ℕ) (nodes : Nodes) (e : Environment) →
    KnowAll setting.answers
    → (meaning setting depth nodes (leniently e)).end ≡ Err UnknownVariable → ⊥
