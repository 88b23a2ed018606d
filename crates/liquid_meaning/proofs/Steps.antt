-- How an outcome follows from the outcomes of its parts, for the code that runs them one after another.
use Rattle.std.specs.Prelude.{Option, ◌≡◌, Some, None, Result, Ok, Err}
use mathlib.Core.Path.{refl, ap, ◌∙◌}
use Rattle.std.proofs.Common.{append-nil}
use Rattle.liquid_model.specs.Texts.{Text}
use Rattle.liquid_model.specs.declared.error.ErrorKind.{ErrorKind}
use Rattle.liquid_evaluation.specs.Tree.{Node, Nodes, no_nodes, node}
use Rattle.liquid_core.specs.Environment.{Environment}
use Rattle.liquid_core.specs.declared.interrupt.Interrupt.{Interrupt}
use Rattle.liquid_meaning.specs.Runs.{Nothing, Outcome, Run, done, after_text, go_on, ◌>>=◌}
use Rattle.liquid_meaning.specs.Effects.{if_none, unless_interrupted}
use Rattle.liquid_meaning.specs.Meaning.{Setting, node_meaning, nodes_meaning}

-- the outcome o, but ended by kind
abbrev pub ended_by : {A B : Type 0} → Outcome A → ErrorKind → Outcome B
ended_by o kind = record { text = o.text; environment = o.environment; end = Err kind }

pub bind_ok : {A B : Type 0} (m : Run A) (k : A → Run B) (e : Environment) (a : A) → (m e).end ≡ Ok a → (m >>= k) e ≡ after_text (m e).text (k a (m e).environment)
unfolding ◌>>=◌
bind_ok m k e a is = ap (go_on k (m e).text (m e).environment) is

pub bind_fault : {A B : Type 0} (m : Run A) (k : A → Run B) (e : Environment) (kind : ErrorKind) → (m e).end ≡ Err kind → (m >>= k) e ≡ ended_by (m e) kind
unfolding ◌>>=◌
bind_fault m k e kind is = ap (go_on k (m e).text (m e).environment) is

module _ (setting : Setting) (deeper : Nodes → Run Nothing) where
  -- the clauses of a list, to rewrite by: to unfold `nodes_meaning` elsewhere shows the meaning of every kind of node
  pub nodes_meaning-none : nodes_meaning setting deeper no_nodes ≡ done tt
  unfolding nodes_meaning
  nodes_meaning-none = refl

  pub nodes_meaning-node : (n : Node) (more : Nodes) → nodes_meaning setting deeper (node n more) ≡ (node_meaning setting deeper n >>= (λ a. unless_interrupted (nodes_meaning setting deeper more)))
  unfolding nodes_meaning
  nodes_meaning-node n more = refl

  -- a template of one node is that node
  pub alone : (n : Node) (e : Environment) → nodes_meaning setting deeper (node n no_nodes) e ≡ node_meaning setting deeper n e
  unfolding ◌>>=◌ go_on unless_interrupted done
  alone n e = (λ i. nodes_meaning-node n no_nodes i e) ∙ ((λ i. (node_meaning setting deeper n >>= (λ a. unless_interrupted (nodes_meaning-none i))) e) ∙ on (node_meaning setting deeper n e).text (node_meaning setting deeper n e).environment (node_meaning setting deeper n e).end)
    where
      last : (t : Text) (g : Environment) (i : Option Interrupt) → after_text t (if_none i (done tt) g) ≡ record { text = t; environment = g; end = Ok tt }
      last t g None = λ i. record { text = append-nil t i; environment = g; end = Ok tt }
      last t g (Some i) = λ i. record { text = append-nil t i; environment = g; end = Ok tt }

      on : (t : Text) (g : Environment) (x : Result Nothing ErrorKind) → go_on (λ a. unless_interrupted (done tt)) t g x ≡ record { text = t; environment = g; end = x }
      on t g (Ok a) = last t g g.registers.interrupt
      on t g (Err kind) = refl
