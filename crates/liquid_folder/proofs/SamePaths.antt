-- Two paths of the same steps.
use Rattle.std.specs.Prelude.{◌≡◌, ◌∷◌, ◌++◌, [], List, Bool, true, false, not, Option, Some, None, IsTrue}
use Rattle.std.specs.Option.{is_some}
use Rattle.std.specs.Path.{IsNextComponent}
use Rattle.std.specs.declared.path.components.Component.{Component}
use Rattle.std.proofs.lemmas.List.{append-nil, append_cancel_left}
use Rattle.liquid_model.specs.Texts.{Text}
use mathlib.Core.Path.{refl, sym, ap, ◌∙◌}

nothing_after : (own other rest : List Text) → own ≡ other ++ rest → own ≡ other → rest ≡ []
nothing_after own other rest split same = append_cancel_left other rest [] (sym split ∙ same ∙ sym (append-nil other))

-- what is left of one path after the steps of the other is nothing just where they are the same
pub same : (own other rest : List Text) (next : Option Component) (after : List Text) (b : Bool) → own ≡ other ++ rest → IsNextComponent rest next after → is_some next ≡ not b
    → (IsTrue b → own ≡ other) × (own ≡ other → IsTrue b)
same own other rest None after true split step is = ((λ _. split ∙ ap (λ r. other ++ r) step.0 ∙ append-nil other), (λ _. refl))
same own other rest None after false split step is = absurd cc
same own other rest (Some c) after true split step is = absurd cc
same own other rest (Some c) after false split step is = ((λ k. absurd cc), (λ e. let none = sym step.0 ∙ nothing_after own other rest split e in absurd cc))
