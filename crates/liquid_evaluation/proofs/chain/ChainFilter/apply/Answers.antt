use Rattle.std.proofs.Common.{[], ◌∷◌, ◌≡◌, Result, ap, sym, ◌∙◌, subst, true, false}
use Rattle.liquid_model.specs.Answer.{Faulted}
use Rattle.liquid_model.specs.Data.{Datum}
use Rattle.liquid_model.specs.View.{view}
use Rattle.liquid_model.specs.declared.error.ErrorKind.{ErrorKind}
use Rattle.liquid_core.specs.States.{environment_of}
use Rattle.liquid_evaluation.specs.Calls.{Call, applied}
use Rattle.liquid_evaluation.specs.ChainView.{chain_filter_view}
use Rattle.liquid_evaluation.specs.Evaluation.{answers_with}
use Rattle.liquid_evaluation.specs.inside.Forgiveness.{forgives_nil}
use Rattle.liquid_evaluation.proofs.Forgiveness.{answered, stood_in, not_forgiven, other_fault}
use Rattle.liquid_evaluation.proofs.chain.ChainFilter.apply.Goals as goal

pub returns-in-Ok : goal.returns-in-Ok
returns-in-Ok g c =
    let e = environment_of c.args.state.now in
    let value_with : Call → Result Datum ErrorKind = λ call. applied (call ∷ []) (view c.args.input.now) e in
    answered e.missing (answers_with (g.H.NamedFilters.named c.args.host.now)) (chain_filter_view c.args.self.now) (view c.args.input.now) e (view c.in-Ok.answer) (ap value_with (sym c.call.ensures.call) ∙ c.in-Ok.ensures)

pub returns-then-forgives_nil : goal.returns-then-forgives_nil
returns-then-forgives_nil g c =
    let e = environment_of c.args.state.now in
    let value_with : Call → Result Datum ErrorKind = λ call. applied (call ∷ []) (view c.args.input.now) e in
    let forgives : forgives_nil e.missing (chain_filter_view c.args.self.now).filter (view c.args.input.now) ≡ true =
    ap (λ m. forgives_nil m (chain_filter_view c.args.self.now).filter (view c.args.input.now)) (sym c.missing.ensures) ∙ (sym c.forgives_nil.ensures ∙ c.if-forgives_nil.true) in
    stood_in e.missing (answers_with (g.H.NamedFilters.named c.args.host.now)) (chain_filter_view c.args.self.now) (view c.args.input.now) e c.in-Err.fault.kind c.apply_instead.result forgives c.in-InvalidInput.is
    (subst (λ call. Faulted c.in-Err.fault.kind (value_with call)) c.call.ensures.call c.in-Err.ensures) c.apply_instead.ensures

pub returns-else-forgives_nil : goal.returns-else-forgives_nil
returns-else-forgives_nil g c =
    let e = environment_of c.args.state.now in
    let value_with : Call → Result Datum ErrorKind = λ call. applied (call ∷ []) (view c.args.input.now) e in
    let forgives : forgives_nil e.missing (chain_filter_view c.args.self.now).filter (view c.args.input.now) ≡ false =
    ap (λ m. forgives_nil m (chain_filter_view c.args.self.now).filter (view c.args.input.now)) (sym c.missing.ensures) ∙ (sym c.forgives_nil.ensures ∙ c.if-forgives_nil.false) in
    not_forgiven e.missing (answers_with (g.H.NamedFilters.named c.args.host.now)) (chain_filter_view c.args.self.now) (view c.args.input.now) e c.in-Err.fault.kind forgives
    (subst (λ call. Faulted c.in-Err.fault.kind (value_with call)) c.call.ensures.call c.in-Err.ensures)

pub returns-in_default : goal.returns-in_default
returns-in_default g c =
    let e = environment_of c.args.state.now in
    let value_with : Call → Result Datum ErrorKind = λ call. applied (call ∷ []) (view c.args.input.now) e in
    other_fault e.missing (answers_with (g.H.NamedFilters.named c.args.host.now)) (chain_filter_view c.args.self.now) (view c.args.input.now) e c.in-Err.fault.kind c.in_default.not-InvalidInput
    (subst (λ call. Faulted c.in-Err.fault.kind (value_with call)) c.call.ensures.call c.in-Err.ensures)
