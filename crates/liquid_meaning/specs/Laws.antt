-- Laws of runs, beside those of isolation.
use Rattle.std.specs.Prelude.{◌≡◌, ℕ, ◌+◌, ◌<◌, T, nat_le, List, [], ◌∷◌, Some, Result, Ok, Err}
use Rattle.std.specs.Prelude.{IsSome, pos, codes}
use Rattle.liquid_model.specs.Texts.{Text}
use Rattle.liquid_model.specs.Data.{Datum, number, text}
use Rattle.liquid_model.specs.Find.{find}
use Rattle.liquid_model.specs.ErrorKinds.{number_of}
use Rattle.liquid_model.specs.declared.error.ErrorKind.{ErrorKind}
use Rattle.liquid_core.specs.Environment.{Environment}
use Rattle.liquid_model.specs.FilterAnswers.{FilterAnswer}
use Rattle.liquid_core.specs.Hosts.{no_host}
use Rattle.liquid_filters.specs.RunKinds.{EndsAsRun}
use Rattle.liquid_evaluation.specs.Tree.{Filter, Chain, Source, Window, Nodes, no_nodes, node}
use Rattle.liquid_evaluation.specs.Tree.{plain, assign, for_each}
use Rattle.liquid_evaluation.specs.Evaluation.{answers_with, source_items, selected_items}
use Rattle.liquid_core.specs.Loops.{forloop_object}
use Rattle.liquid_meaning.specs.Meaning.{Setting, meaning}

-- a template of one text is that text: its run writes it, is done and changes nothing
abbrev pub TextIsItself : Type 0
TextIsItself = (setting : Setting) (depth : ℕ) (t : Text) (e : Environment)
    → meaning setting depth (node (plain t) no_nodes) e ≡ record {
      text = t;
      environment = e;
      end = Ok tt;
    }

-- no run takes an assigned variable away
abbrev pub AssignedStay : Type 0
AssignedStay = (setting : Setting) (depth : ℕ) (nodes : Nodes) (e : Environment) (name : Text)
    → IsSome (e.assigned name) → IsSome ((meaning setting depth nodes e).environment.assigned name)

-- an `assign` that ran in a `for`, which has items and is done, is there after it
abbrev pub AssignedInLoop : Type 0
AssignedInLoop = (setting : Setting) (depth : ℕ) (name : Text) (source : Source) (window : Window)
    (target : Text) (chain : Chain) (more otherwise : Nodes) (e : Environment)
    (all items : List Datum) (d : Datum)
    → source_items source e ≡ Ok all → selected_items window all e ≡ Ok (d ∷ items)
    → (let o = meaning setting depth
    (node (for_each name source window (node (assign target chain) more) otherwise)
    no_nodes) e in
    o.end ≡ Ok tt → IsSome (o.environment.assigned target))

-- the object of a loop holds the number n under a name
abbrev pub Counts : Datum → Text → ℕ → Type 0
Counts forloop name n = find forloop (text name ∷ []) ≡ Some (number (pos n))

-- at item k of m, `index` is `index0` + 1, and `index` + `rindex0` is `length`
pub record ForloopCounts (k m : ℕ) (parent : Datum) : Type 0 where
  pub index0 : ℕ
  pub index : ℕ
  pub rindex0 : ℕ
  pub length : ℕ
  pub holds_index0 : Counts (forloop_object k m parent) (codes "index0") index0
  pub holds_index : Counts (forloop_object k m parent) (codes "index") index
  pub holds_rindex0 : Counts (forloop_object k m parent) (codes "rindex0") rindex0
  pub holds_length : Counts (forloop_object k m parent) (codes "length") length
  pub one_more : index ≡ index0 + 1
  pub together : index + rindex0 ≡ length

abbrev pub ForloopCountsItems : Type 0
ForloopCountsItems = (k m : ℕ) (parent : Datum) → k < m → ForloopCounts k m parent

-- where the filters answer kinds of runs alone, every run ends by such a kind
abbrev pub KindsOfRuns : Type 0
KindsOfRuns = (setting : Setting) → ((filter : Filter) (input : Datum) (arguments : List Datum) →
    EndsAsRun (setting.answers filter input arguments))
    → (depth : ℕ) (nodes : Nodes) (e : Environment) → EndsAsRun (meaning setting depth nodes e).end

-- with the filters that exist, and none of a host, every run ends by a kind of runs
abbrev pub KindsOfOwnRuns : Type 0
KindsOfOwnRuns = (partials : List (Text × Nodes)) (depth : ℕ) (nodes : Nodes) (e : Environment)
    → EndsAsRun (meaning (record {
      answers = answers_with no_host;
      partials = partials;
    }) depth nodes e).end

-- an end by a value, or by a kind of the numbers 1 to 17: a host's filter may answer `Memory` too
abbrev pub EndsWithHost : {A : Type 0} → Result A ErrorKind → Type 0
EndsWithHost end = (kind : ErrorKind) → end ≡ Err kind → T (nat_le (number_of kind) 17)

-- with the filters that exist, and those of a host that end so, every run ends so
abbrev pub KindsWithHost : Type 0
KindsWithHost = (named : Text → FilterAnswer) →
    ((name : Text) (input : Datum) (arguments : List Datum) →
    EndsWithHost (named name input arguments))
    → (partials : List (Text × Nodes)) (depth : ℕ) (nodes : Nodes) (e : Environment)
    → EndsWithHost (meaning (record {
      answers = answers_with named;
      partials = partials;
    }) depth nodes e).end
