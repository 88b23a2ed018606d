-- The law of isolation: a run depends on the names that its template or a partial mentions, and
-- leaves all others alone.
--     Agree N e f      the environments' cuts to N are equal: layer by layer, and not by what a
--                      look-up finds
--     changes e g      the assigned variables and counters that are new or other in g, and the
--                      registers of g
--     IsAsCut m N e      m from e has the text, the end and the changes of m from the cut of e to
--                        N, and keeps all other names
--     restored N e o      o with the pairs of e under all names but those of N put back
--     IsIsolated m N      m over an environment is m over its cut to N, with the pairs of other
--                         names put back
use Rattle.std.specs.Prelude.{◌≡◌, ℕ, T, not, Bool, false, List, [], Option, Some, None, Result, Ok}
use Rattle.liquid_model.specs.Texts.{Text}
use Rattle.liquid_model.specs.Data.{Datum}
use Rattle.liquid_model.specs.Order.{same}
use Rattle.liquid_model.specs.declared.error.ErrorKind.{ErrorKind}
use Rattle.liquid_core.specs.Expression.{Expression}
use Rattle.liquid_model.specs.Maps.{Map, retain_keys}
use Rattle.liquid_core.specs.Environment.{Names, Environment, Registers, cut, put_back}
use Rattle.liquid_evaluation.specs.Tree.{Source, Bindings, Nodes, no_nodes, node, render}
use Rattle.liquid_evaluation.specs.Names.{run_names, mentioned}
use Rattle.liquid_evaluation.specs.Evaluation.{source_items, bound_values}
use Rattle.liquid_meaning.specs.Runs.{Outcome, Run}
use Rattle.liquid_meaning.specs.Meaning.{Setting, partial_name_text, meaning}

-- the names that the template or a partial mentions
abbrev pub names_of_run : Setting → Nodes → Names
names_of_run setting nodes = mentioned (run_names setting.partials nodes)

abbrev pub Agree : Names → Environment → Environment → Type 0
Agree N e f = cut N e ≡ cut N f

-- m holds what n held under each name that is not in N
abbrev pub HoldsOutside : Names → Map Datum → Map Datum → Type 0
HoldsOutside N n m = (name : Text) → T (not (N name)) → m name ≡ n name

-- g has the local names and the data of e, and under names that are not in N the assigned values
-- and counters of e; a missing value is in g what it is in e
pub record KeepsOthers (N : Names) (e g : Environment) : Type 0 where
  pub local : g.local ≡ e.local
  pub globals : g.globals ≡ e.globals
  pub missing : g.missing ≡ e.missing
  pub assigned : HoldsOutside N e.assigned g.assigned
  pub counters : HoldsOutside N e.counters g.counters

-- ---- the changes of a run

abbrev pub holds : Option Datum → Datum → Bool
holds None d = false
holds (Some c) d = same c d

abbrev pub is_new : Option Datum → Option Datum → Bool
is_new before None = false
is_new before (Some d) = not (holds before d)

-- the pairs of after that before has not
abbrev pub changed_pairs : Map Datum → Map Datum → Map Datum
changed_pairs before after = retain_keys after (λ name. is_new (before name) (after name))

-- the names of assigned and of counters that are new or hold another value in g, each with its
-- value there, and the registers there
pub record Changes : Type 0 where
  pub assigned : Map Datum
  pub counters : Map Datum
  pub registers : Registers

abbrev pub changes : Environment → Environment → Changes
changes e g = record {
  assigned = changed_pairs e.assigned g.assigned;
  counters = changed_pairs e.counters g.counters;
  registers = g.registers;
}

-- ---- the law

-- text, end and changes are those for the environment cut to N, and all other names hold what they
-- held
pub record IsAsCut {A : Type 0} (m : Run A) (N : Names) (e : Environment) : Type 0 where
  pub text : (m e).text ≡ (m (cut N e)).text
  pub end : (m e).end ≡ (m (cut N e)).end
  pub changes : changes e (m e).environment ≡ changes (cut N e) (m (cut N e)).environment
  pub others : KeepsOthers N e (m e).environment

abbrev pub Headline : Type 0
Headline = (setting : Setting) (depth : ℕ) (nodes : Nodes) (e : Environment) →
    IsAsCut (meaning setting depth nodes) (names_of_run setting nodes) e

abbrev pub restored : {A : Type 0} → Names → Environment → Outcome A → Outcome A
restored N e o = record o { environment = put_back N e o.environment }

abbrev pub IsIsolated : {A : Type 0} → Run A → Names → Type 0
IsIsolated m N = (e : Environment) → m e ≡ restored N e (m (cut N e))

-- the same in one equation
abbrev pub Isolation : Type 0
Isolation = (setting : Setting) (depth : ℕ) (nodes : Nodes) →
    IsIsolated (meaning setting depth nodes) (names_of_run setting nodes)

-- two runs, o from e and p from f, have the same text, end and changes, and their environments
-- agree on N again
pub record AreAlike {A : Type 0} (N : Names) (e f : Environment) (o p : Outcome A) : Type 0 where
  pub text : o.text ≡ p.text
  pub end : o.end ≡ p.end
  pub changes : changes e o.environment ≡ changes f p.environment
  pub environments : Agree N o.environment p.environment

-- two environments that agree on the names of the run, whatever else they hold
abbrev pub AgreeingRuns : Type 0
AgreeingRuns = (setting : Setting) (depth : ℕ) (nodes : Nodes) (e f : Environment) →
    Agree (names_of_run setting nodes) e f
    → AreAlike (names_of_run setting nodes) e f (meaning setting depth nodes e)
    (meaning setting depth nodes f)

abbrev pub OthersKept : Type 0
OthersKept = (setting : Setting) (depth : ℕ) (nodes : Nodes) (e : Environment) →
    KeepsOthers (names_of_run setting nodes) e (meaning setting depth nodes e).environment

-- ---- a template of one `render`

-- it leaves the whole environment as it was, also where it ends by a kind
abbrev pub RenderLeavesAll : Type 0
RenderLeavesAll = (setting : Setting) (depth : ℕ) (x : Expression) (each : Option (Source × Text))
    (bindings : Bindings) (e : Environment)
    → (meaning setting depth (node (render x each bindings) no_nodes) e).environment ≡ e

-- the items of its `for`, where it has one
abbrev pub items_of_render : Option (Source × Text) → Environment → Result (List Datum) ErrorKind
items_of_render None e = Ok []
items_of_render (Some each) e = source_items each.0 e

-- what it writes and how it ends depends on its name, its items and its pairs' values alone (and on
-- the partials, the depth, and what a missing value is)
abbrev pub RenderSeesItsValues : Type 0
RenderSeesItsValues = (setting : Setting) (depth : ℕ) (x : Expression)
    (each : Option (Source × Text)) (bindings : Bindings) (e f : Environment)
    → e.missing ≡ f.missing → partial_name_text x e ≡ partial_name_text x f
    → items_of_render each e ≡ items_of_render each f
    → bound_values bindings e ≡ bound_values bindings f
    → (let o = meaning setting depth (node (render x each bindings) no_nodes) e in
    let p = meaning setting depth (node (render x each bindings) no_nodes) f in
    (o.text ≡ p.text) × (o.end ≡ p.end))
