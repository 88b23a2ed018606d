-- Short words, to write trees and their runs by hand.
use Prim.Native.String.{String}
use Rattle.std.specs.Prelude.{◌≡◌, ℕ, pos, false, List, [], ◌∷◌, Option, None, Ok, Err, codes}
use Rattle.liquid_model.specs.Texts.{Text}
use Rattle.liquid_model.specs.Data.{Datum, number, text}
use Rattle.liquid_model.specs.declared.error.ErrorKind.{ErrorKind}
use Rattle.liquid_model.specs.declared.error.ErrorKind.TheVariants.{Unsupported}
use Rattle.liquid_core.specs.declared.interrupt.Interrupt.{Interrupt}
use Rattle.liquid_core.specs.Expression.{Expression, literal, variable, no_steps, step}
use Rattle.liquid_model.specs.Maps.{empty, listed}
use Rattle.liquid_core.specs.Environment.{Environment, new_environment}
use Rattle.liquid_evaluation.specs.declared.comparison.ComparisonOperator.{ComparisonOperator}
use Rattle.liquid_evaluation.specs.Tree.{Chain, compared, Source, counted, Window, Node, output}
use Rattle.liquid_evaluation.specs.Tree.{if_true, for_each, Nodes, no_nodes, node}
use Rattle.liquid_evaluation.specs.Evaluation.{FilterAnswers}
use Rattle.liquid_meaning.specs.Runs.{Nothing, Outcome}
use Rattle.liquid_meaning.specs.Meaning.{meaning}

-- ---- trees

-- `s`, `s.t`, `'s'` and `n`
abbrev pub name : String → Expression
name s = variable (codes s) no_steps

abbrev pub variable_property : String → String → Expression
variable_property s t = variable (codes s) (step (literal (text (codes t))) no_steps)

abbrev pub text_literal : String → Expression
text_literal s = literal (text (codes s))

abbrev pub integer : ℕ → Expression
integer n = literal (number (pos n))

-- a chain without filters
abbrev pub without_filters : Expression → Chain
without_filters x = record { entry = x; filters = [] }

abbrev pub show : Expression → Node
show x = output (without_filters x)

abbrev pub tree : List Node → Nodes
tree [] = no_nodes
tree (n ∷ ns) = node n (tree ns)

-- `{% if x operator y %}body{% endif %}`
abbrev pub if_compared : Expression → ComparisonOperator → Expression → List Node → Node
if_compared x operator y body = if_true ((compared x operator y ∷ []) ∷ []) (tree body) no_nodes

-- `(first..last)`
abbrev pub from_to : ℕ → ℕ → Source
from_to first last = counted (integer first) (integer last)

-- all items, in their order
abbrev pub whole_window : Window
whole_window = record { limit = None; offset = None; reversed = false }

-- `{% for s in source %}body{% endfor %}`
abbrev pub for_in : String → Source → List Node → Node
for_in s source body = for_each (codes s) source whole_window (tree body) no_nodes

-- ---- runs

abbrev pub no_filters : FilterAnswers
no_filters filter input arguments = Err Unsupported

abbrev pub with_data : List (Text × Datum) → Environment
with_data pairs = record (new_environment empty) { globals = listed pairs }

-- with one partial, a depth and data
abbrev pub ran : List (Text × Nodes) → ℕ → Environment → List Node → Outcome Nothing
ran partials depth e nodes = meaning (record {
  answers = no_filters;
  partials = partials;
}) depth (tree nodes) e

-- with nothing
abbrev pub page : List Node → Outcome Nothing
page nodes = ran [] 32 (with_data []) nodes

abbrev pub page_with : String → List Node → List Node → Outcome Nothing
page_with s partial nodes = ran ((codes s, tree partial) ∷ []) 32 (with_data []) nodes

-- ---- what is worked

abbrev pub Writes : Outcome Nothing → String → Type 0
Writes o s = (o.text ≡ codes s) × (o.end ≡ Ok tt)

abbrev pub WritesThen : Outcome Nothing → String → ErrorKind → Type 0
WritesThen o s kind = (o.text ≡ codes s) × (o.end ≡ Err kind)

-- what is left of a variable, a counter and a group of `cycle`
abbrev pub assigned_after : Outcome Nothing → String → Option Datum
assigned_after o s = o.environment.assigned (codes s)

abbrev pub counter_after : Outcome Nothing → String → Option Datum
counter_after o s = o.environment.counters (codes s)

abbrev pub group_after : Outcome Nothing → String → Option ℕ
group_after o s = o.environment.registers.cycles (codes s)

abbrev pub interrupt_after : Outcome Nothing → Option Interrupt
interrupt_after o = o.environment.registers.interrupt
