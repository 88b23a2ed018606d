use Rattle.std.proofs.Common.{rules, Ok, Some, None, FitsSigned, w64, ap, sym, subst, ◌∙◌}
use Rattle.std.proofs.lemmas.Int.{to_z-of_z}
use Rattle.std.specs.Prelude.{option_map}
use Rattle.liquid_model.specs.Answer.{Answers}
use Rattle.liquid_model.specs.Cow.{cow_view}
use Rattle.liquid_model.specs.Data.{number}
use Rattle.liquid_model.specs.View.{view}
use Rattle.liquid_core.specs.ExpressionView.{expression_view}
use Rattle.liquid_core.specs.States.{environment_of}
use Rattle.liquid_evaluation.specs.inside.Comparisons.{truth_beside}
use Rattle.liquid_evaluation.proofs.Comparisons.{there_found, beside_found}
use Rattle.liquid_evaluation.proofs.condition.Atom.holds.Goals as goal

pub returns-in-Held-direct_value : goal.returns-in-Held-direct_value
returns-in-Held-direct_value c =
    let e = environment_of c.args.state.now in
    beside_found c.args.self.now c.in-Compared.left c.in-Compared.right c.in-Compared.operator e (Some (view c.in-Held-direct_value.left.now)) c.holds_beside.result c.in-Compared.is
    (there_found (expression_view c.in-Compared.left) e (view c.in-Held-direct_value.left.now) c.in-Held-direct_value.ensures) c.holds_beside.ensures

pub returns-in-Number : goal.returns-in-Number
returns-in-Number c =
    let e = environment_of c.args.state.now in
    let fits : FitsSigned w64 c.in-Number.left = search rules in
    beside_found c.args.self.now c.in-Compared.left c.in-Compared.right c.in-Compared.operator e (Some (number c.in-Number.left)) c.number_holds_beside.result c.in-Compared.is
    (there_found (expression_view c.in-Compared.left) e (number c.in-Number.left) c.in-Number.ensures)
    (subst (λ z. Answers (λ b. b) c.number_holds_beside.result (truth_beside (Some (number z)) c.in-Compared.operator (expression_view c.in-Compared.right) e)) (to_z-of_z w64 c.in-Number.left fits) c.number_holds_beside.ensures)

pub returns-in-Some : goal.returns-in-Some
returns-in-Some c =
    let e = environment_of c.args.state.now in
    beside_found c.args.self.now c.in-Compared.left c.in-Compared.right c.in-Compared.operator e (Some (view c.as_value.result.now)) c.holds_beside-held.result c.in-Compared.is
    (c.in_ok-left-in-Compared.ensures ∙ (ap (λ o. Ok (option_map cow_view o)) c.in-Some.is ∙ ap (λ d. Ok (Some d)) (sym c.as_value.ensures))) c.holds_beside-held.ensures

pub returns-in-None : goal.returns-in-None
returns-in-None c =
    let e = environment_of c.args.state.now in
    beside_found c.args.self.now c.in-Compared.left c.in-Compared.right c.in-Compared.operator e None c.holds_beside_missing.result c.in-Compared.is
    (c.in_ok-left-in-Compared.ensures ∙ ap (λ o. Ok (option_map cow_view o)) c.in-None.is) c.holds_beside_missing.ensures
