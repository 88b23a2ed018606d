-- What a `render .. for` does.
use Rattle.std.proofs.Common.{◌≡◌, ℕ, List, length, Some, Option, Result, Ok, Err}
use Rattle.std.specs.Prelude.{codes}
use Rattle.liquid_model.specs.Answer.{Faulted}
use Rattle.liquid_model.specs.Data.{Datum, nil}
use Rattle.liquid_model.specs.Texts.{Text}
use Rattle.liquid_model.specs.declared.error.Error.{Error}
use Rattle.liquid_core.specs.Expression.{Expression}
use Rattle.liquid_core.specs.Loops.{loop_scope, forloop_object}
use Rattle.liquid_core.specs.declared.interrupt.Interrupt.{Interrupt}
use Rattle.liquid_evaluation.specs.Evaluation.{source_items}
use Rattle.liquid_evaluation.specs.Tree as tree
use Rattle.liquid_meaning.specs.Loops.{until_break}
use Rattle.liquid_meaning.specs.Meaning.{Setting, partial_name_text, node_meaning, render_apart}
use Rattle.liquid_meaning.specs.Runs as runs
use Rattle.liquid_meaning.specs.Runs.{Nothing, Run, evaluate}
use Rattle.liquid_meaning.proofs.Rules.{render_each_rule}
use Rattle.liquid_engine.specs.Performs.{Configuration, Performs, unit}
use Rattle.liquid_engine.proofs.Joined.{by_rule, given_met, refused_met}

module _ (setting : Setting) (deeper : tree.Nodes → Run Nothing) (x : Expression) (each : tree.Source × Text) (bindings : tree.Bindings) where
  -- the partial of that name at item k of m
  abbrev pub item_run : Text → ℕ → ℕ → Datum → Run (Option Interrupt)
  item_run name m k d = render_apart setting deeper name bindings (loop_scope (codes "forloop") (forloop_object k m nil) each.1 d)

  abbrev pub items_run : Text → List Datum → Run Nothing
  items_run name ds = until_break (item_run name (length ds)) 0 ds

  abbrev each_from : Text → Run Nothing
  each_from name = runs.◌>>=◌ (evaluate (source_items each.0)) (items_run name)

  pub name_refused : (e : Error) (p : Configuration) → Faulted e.kind (partial_name_text x p.environment) → Performs (Err e) (node_meaning setting deeper (tree.render x (Some each) bindings)) p p
  name_refused e p h = by_rule (render_each_rule setting deeper x each bindings) (refused_met {V = Text} (λ t. t) unit e (partial_name_text x) each_from p h)

  pub items_refused : (e : Error) (name : Text) (p : Configuration) → partial_name_text x p.environment ≡ Ok name → Faulted e.kind (source_items each.0 p.environment)
      → Performs (Err e) (node_meaning setting deeper (tree.render x (Some each) bindings)) p p
  items_refused e name p is h =
      by_rule (render_each_rule setting deeper x each bindings) (given_met {V = Text} (λ t. t) unit name (Err e) (partial_name_text x) each_from p p is
      (refused_met {V = List Datum} (λ ds. ds) unit e (source_items each.0) (items_run name) p h))

  pub items_met : (r : Result (Unit {0}) Error) (name : Text) (ds : List Datum) (p q : Configuration) → partial_name_text x p.environment ≡ Ok name → source_items each.0 p.environment ≡ Ok ds
      → Performs r (items_run name ds) p q → Performs r (node_meaning setting deeper (tree.render x (Some each) bindings)) p q
  items_met r name ds p q is found h =
      by_rule (render_each_rule setting deeper x each bindings) (given_met {V = Text} (λ t. t) unit name r (partial_name_text x) each_from p q is
      (given_met {V = List Datum} (λ ds. ds) unit ds r (source_items each.0) (items_run name) p q found h))
