use Rattle.std.proofs.Common.{◌≡◌, true, sym, subst}
use Rattle.liquid_model.proofs.Maps.{same_key}
use Rattle.liquid_syntax.specs.CallView.{partial_call_view}
use Rattle.liquid_syntax.specs.Reached.{is_settled}
use Rattle.liquid_syntax.proofs.Wanting.{held, liquid_settled}
use Rattle.liquid_syntax.specs.declared.wanted.Wanted.{Wanted}
use Rattle.liquid_syntax.proofs.wanted.Wanted.add_call.Goals as goal

pub returns-in_ok-push-in-NameOrLiquid-clause-settled : goal.returns-in_ok-push-in-NameOrLiquid-clause-settled
returns-in_ok-push-in-NameOrLiquid-clause-settled c found =
    let v : Wanted = record { any = c.args.self.now.any; asked = c.add-in-NameOrLiquid.new.self; fallbacks = c.push.new.self } in
    subst (λ call. is_settled v found (partial_call_view call) ≡ true) (sym c.in-NameOrLiquid.is)
    (liquid_settled v found c.args.self.now.fallbacks.items c.in_ok-from_str-in-NameOrLiquid.field-0 c.in-NameOrLiquid.name.now c.in_ok-push-in-NameOrLiquid.ensures.items c.in_ok-from_str-in-NameOrLiquid.ensures.ok c.in_ok-add-in-NameOrLiquid.ensures.known (held _ (same_key c.in-NameOrLiquid.name.now)))
