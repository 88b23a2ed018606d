use Rattle.std.proofs.Common.{◌∷◌, [], ◌∙◌, sym, subst}
use Rattle.liquid_syntax.specs.CallView.{partial_call_view}
use Rattle.liquid_syntax.specs.Called.{Gathered}
use Rattle.liquid_syntax.specs.declared.called.Called.{Called}
use Rattle.liquid_syntax.proofs.Calling.{gathered_one, gathered_two, on_ok, or_none}
use Rattle.liquid_syntax.proofs.called.Called.add.Goals as goal

pub returns-in-Name : goal.returns-in-Name
returns-in-Name c =
    let a = c.args.self.now in
    let b : Called = record { any = a.any; names = c.add_name.new.names } in
    on_ok c.add_name.result (λ is. subst (λ call. Gathered a (partial_call_view call ∷ []) b) (sym c.in-Name.is) (record { any = or_none a.any; names = gathered_one a.names b.names c.in-Name.name.now is })) c.add_name.ensures

pub returns-in_ok-liquid-in-NameOrLiquid : goal.returns-in_ok-liquid-in-NameOrLiquid
returns-in_ok-liquid-in-NameOrLiquid c =
    let a = c.args.self.now in
    let b : Called = record { any = a.any; names = c.add_name-in-NameOrLiquid-2.new.names } in
    on_ok c.add_name-in-NameOrLiquid-2.result (λ is. subst (λ call. Gathered a (partial_call_view call ∷ []) b) (sym c.in-NameOrLiquid.is)
    (record { any = or_none a.any; names = gathered_two a.names c.add_name-in-NameOrLiquid.new.names b.names c.in-NameOrLiquid.name.now c.as_str.result.now c.in_ok-add_name-in-NameOrLiquid.ensures is (c.as_str.ensures.value ∙ c.in_ok-liquid-in-NameOrLiquid.ensures) })) c.add_name-in-NameOrLiquid-2.ensures
