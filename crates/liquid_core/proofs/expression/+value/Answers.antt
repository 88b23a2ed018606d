use Rattle.std.proofs.Common.{rules, ◌≡◌, ◌∷◌, ◌+◌, None, get_or, drop, refl, sym, ap, ◌∙◌, arith}
use Rattle.std.specs.Option.{option_map}
use Rattle.std.proofs.lemmas.List.{drop_more, drop_all}
use Rattle.liquid_core.specs.States.{environment_of}
use Rattle.liquid_core.specs.Resolved.{resolved_view}
use Rattle.liquid_core.proofs.ExpressionViews.{literal_is, value_from, no_part, no_step, one_step, no_more}
use Rattle.liquid_core.proofs.Steps.{literal_value}
use Rattle.liquid_core.proofs.expression.+value.Goals as goal

pub expression_value-returns-in-Literal : goal.expression_value-returns-in-Literal
expression_value-returns-in-Literal t c = record { value = rw (c.in-Literal.is, literal_is c.in-Literal.value, literal_value) refl; among = tt }

pub variable_value-returns-in_err-found : goal.variable_value-returns-in_err-found
variable_value-returns-in_err-found t c =
    record {
      value =
          ap (option_map resolved_view) c.from_residual.ensures ∙ value_from c.args.variable.now (environment_of c.args.state.now) c.as_str.result.now _ None (search rules) refl c.in_err-found.ensures.value;
      among = search rules;
    }

pub variable_value-returns-in_err-part : goal.variable_value-returns-in_err-part
variable_value-returns-in_err-part t c =
    let e = environment_of c.args.state.now in
    let xs = c.deref-index-items.result.now in
    let i = c.loop-index.index-index in
    let x = c.index-item.result in
    let at : x ≡ get_or xs i x = search rules in
    let next : drop i xs ≡ x ∷ drop (i + 1) xs = drop_more xs i x (omega arith) ∙ ap (λ z. z ∷ drop (i + 1) xs) (sym at) in
    record {
      value =
          ap (option_map resolved_view) c.from_residual-in_err-part.ensures
          ∙ no_part (resolved_view c.loop-index.found) x (drop i xs) (drop (i + 1) xs) e next c.in_err-part.ensures.value
          ∙ c.loop-index.invariant.0
          ∙ value_from c.args.variable.now e c.as_str.result.now xs _ (search rules) c.deref-index-items.ensures.value c.in_ok-found.ensures.value;
      among = search rules;
    }

pub variable_value-returns-in_err-found-2-clause-value : goal.variable_value-returns-in_err-found-2-clause-value
variable_value-returns-in_err-found-2-clause-value t c =
    let e = environment_of c.args.state.now in
    let xs = c.deref-index-items.result.now in
    let i = c.loop-index.index-index in
    let x = c.index-item.result in
    let at : x ≡ get_or xs i x = search rules in
    let next : drop i xs ≡ x ∷ drop (i + 1) xs = drop_more xs i x (omega arith) ∙ ap (λ z. z ∷ drop (i + 1) xs) (sym at) in
    ap (option_map resolved_view) c.from_residual-in_err-found-2.ensures
    ∙ no_step (resolved_view c.loop-index.found) (resolved_view c.in_ok-part.part) x (drop i xs) (drop (i + 1) xs) e next c.in_ok-part.ensures.value c.in_err-found-2.ensures.value
    ∙ c.loop-index.invariant.0
    ∙ value_from c.args.variable.now e c.as_str.result.now xs _ (search rules) c.deref-index-items.ensures.value c.in_ok-found.ensures.value

pub variable_value-returns-clause-value : goal.variable_value-returns-clause-value
variable_value-returns-clause-value t c =
    let e = environment_of c.args.state.now in
    let xs = c.deref-index-items.result.now in
    no_more (resolved_view c.loop-index.found) _ e (drop_all c.loop-index.index-index xs (omega arith))
    ∙ c.loop-index.invariant.0
    ∙ value_from c.args.variable.now e c.as_str.result.now xs _ (search rules) c.deref-index-items.ensures.value c.in_ok-found.ensures.value

pub variable_value-loop-index-preserved : goal.variable_value-loop-index-preserved
variable_value-loop-index-preserved t c =
    let e = environment_of c.args.state.now in
    let xs = c.deref-index-items.result.now in
    let i = c.loop-index.index-index in
    let x = c.index-item.result in
    let at : x ≡ get_or xs i x = search rules in
    let next : drop i xs ≡ x ∷ drop (i + 1) xs = drop_more xs i x (omega arith) ∙ ap (λ z. z ∷ drop (i + 1) xs) (sym at) in (
      one_step (resolved_view c.loop-index.found) (resolved_view c.in_ok-part.part) (resolved_view c.in_ok-found-2.found) x (drop i xs) (drop (i + 1) xs) e next c.in_ok-part.ensures.value c.in_ok-found-2.ensures.value
          ∙ c.loop-index.invariant.0,
      c.in_ok-found-2.ensures.among _ _ c.loop-index.invariant.1,
    )
