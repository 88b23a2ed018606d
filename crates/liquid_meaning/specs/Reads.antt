-- The law of reading: a run depends on those parts of its environment alone that its template or a
-- partial can see.
--     AlikeIn U e f      the environments are alike in what U asks of each name, layer by layer,
--                        and their registers are equal, and what a missing value is
--     ReadsAlone      two runs from environments that are alike in U write the same text, end
--                     alike, and leave such environments
use Rattle.std.specs.Prelude.{◌≡◌, ℕ, T, true, cond, List, Some, Result, Ok, Err}
use Rattle.liquid_model.specs.declared.error.ErrorKind.{ErrorKind}
use Rattle.liquid_model.specs.Texts.{Text}
use Rattle.liquid_model.specs.Data.{Datum}
use Rattle.liquid_model.specs.Maps.{Map}
use Rattle.liquid_core.specs.Environment.{Names, Environment}
use Rattle.liquid_evaluation.specs.Calls.{taken_arguments}
use Rattle.liquid_evaluation.specs.Tree.{FilterCall, Nodes}
use Rattle.liquid_evaluation.specs.Evaluation.{FilterAnswers}
use Rattle.liquid_meaning.specs.Isolation.{names_of_run}
use Rattle.liquid_meaning.specs.Runs.{Outcome}
use Rattle.liquid_meaning.specs.Meaning.{Setting, meaning}
use Rattle.liquid_model.specs.Uses.{Use, nothing, everything, Alike}
use Rattle.liquid_meaning.specs.Reading.{Uses, Needs, covers}

abbrev pub AlikeMaps : Uses → Map Datum → Map Datum → Type 0
AlikeMaps U m n = (name : Text) → Alike (U name) (m name) (n name)

pub record AlikeIn (U : Uses) (e f : Environment) : Type 0 where
  pub local : AlikeMaps U e.local f.local
  pub assigned : AlikeMaps U e.assigned f.assigned
  pub counters : AlikeMaps U e.counters f.counters
  pub globals : AlikeMaps U e.globals f.globals
  pub registers : e.registers ≡ f.registers
  pub missing : e.missing ≡ f.missing

-- both are values, which are alike by R, or both are one kind
abbrev pub Both : {A : Type 0} → (A → A → Type 0) → Result A ErrorKind → Result A ErrorKind → Type 0
Both R (Ok a) (Ok b) = R a b
Both R (Ok a) (Err l) = ⊥
Both R (Err k) (Ok b) = ⊥
Both R (Err k) (Err l) = k ≡ l

-- of two values that are alike in what a call of a filter asks, the answers are alike in what was
-- asked of them
abbrev pub Respects : FilterAnswers → Needs → Type 0
Respects answers needs = (call : FilterCall) (v : Use) (e : Environment) (arguments : List Datum) →
    taken_arguments call.required call.arguments e ≡ Ok arguments
    → (c d : Datum) → Alike (needs call v) (Some c) (Some d) →
    Both (λ a b. Alike v (Some a) (Some b)) (answers call.filter c arguments)
    (answers call.filter d arguments)

-- the text and the end are the same, and the environments that are left are alike again
pub record SameRuns {A : Type 0} (U : Uses) (o p : Outcome A) : Type 0 where
  pub text : o.text ≡ p.text
  pub end : o.end ≡ p.end
  pub left : AlikeIn U o.environment p.environment

abbrev pub ReadsAlone : Type 0
ReadsAlone = (needs : Needs) (U : Uses) (setting : Setting) (depth : ℕ) (nodes : Nodes) →
    Respects setting.answers needs → T (covers needs U setting nodes)
    → (e f : Environment) → AlikeIn U e f →
    SameRuns U (meaning setting depth nodes e) (meaning setting depth nodes f)

-- filters that see everything
abbrev pub needs_all : Needs
needs_all call v = everything

abbrev pub AllRespect : Type 0
AllRespect = (answers : FilterAnswers) → Respects answers needs_all

-- the names of a run, each of them whole
abbrev pub whole_names : Names → Uses
whole_names N name = cond (N name) everything nothing

-- these cover the run, so that isolation by names is a case of the law of reading
abbrev pub NamesCover : Type 0
NamesCover = (needs : Needs) (setting : Setting) (nodes : Nodes) →
    covers needs (whole_names (names_of_run setting nodes)) setting nodes ≡ true
