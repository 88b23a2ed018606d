-- Renderings in a runtime.
use Rattle.std.proofs.Common.{◌≡◌, ℕ, List, [], Some, None, Option, Result, BTreeMap, String, Global, refl, ap, ◌∙◌, subst}
use Rattle.std.specs.Option.{unwrap_or}
use Rattle.std.specs.Borrow.{Bor}
use Rattle.liquid_model.specs.Texts.{Text}
use Rattle.liquid_core.specs.Held.{held, map_of}
use Rattle.liquid_model.specs.Maps.{empty}
use Rattle.liquid_model.specs.View.{pairs_view}
use Rattle.liquid_model.specs.declared.value.Value.{Value}
use Rattle.liquid_model.specs.declared.error.Error.{Error}
use Rattle.liquid_evaluation.specs.Evaluation.{FilterAnswers}
use Rattle.liquid_evaluation.specs.Tree.{Nodes}
use Rattle.liquid_syntax.specs.Templates.{partials_of}
use Rattle.liquid_syntax.specs.declared.partials.Partials.{Partials}
use Rattle.liquid_meaning.specs.Meaning.{Setting, meaning}
use Rattle.liquid_engine.specs.Performs.{Configuration, Performs}
use Rattle.liquid_engine.specs.RuntimeView.{trees_of}

-- with these answers of filters
with_trees : FilterAnswers → List (Text × Nodes) → Setting
with_trees answers trees = record { answers = answers; partials = trees }

-- the partials that a run is given are the runtime's, or none
pub given_setting : (answers : FilterAnswers) (o : Option (Bor Partials)) (none given : Bor Partials) → given ≡ unwrap_or o none → partials_of none.now ≡ []
    → ◌≡◌ {A = Setting} (record { answers = answers; partials = partials_of given.now }) (record { answers = answers; partials = trees_of o })
unfolding with_trees
given_setting answers o none given is nothing = ap (λ p. with_trees answers (partials_of p.now)) is ∙ trees o
  where
    trees : (o : Option (Bor Partials)) → with_trees answers (partials_of (unwrap_or o none).now) ≡ with_trees answers (trees_of o)
    trees None = ap (with_trees answers) nothing
    trees (Some p) = refl

pub rendered : (setting other : Setting) (depth : ℕ) (nodes : Nodes) (r : Result (Unit {0}) Error) (p q : Configuration) → setting ≡ other
    → Performs r (meaning setting depth nodes) p q → Performs r (meaning other depth nodes) p q
rendered setting other depth nodes r p q is h = subst (λ s. Performs r (meaning s depth nodes) p q) is h

pub held_none : (o : BTreeMap (String Global) Value) → o.entries ≡ [] → held o ≡ empty
unfolding map_of empty
held_none o e = ap (λ es. map_of (pairs_view es)) e
