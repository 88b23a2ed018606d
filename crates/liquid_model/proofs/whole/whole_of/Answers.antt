use Rattle.std.proofs.Common.{sym, subst, ◌∙◌}
use Rattle.std.proofs.lemmas.Int.{to_z-of_z}
use Rattle.liquid_model.proofs.Compares.{whole_ok, whole_err}
use Rattle.liquid_model.proofs.whole.whole_of.Goals as goal
use mir.Syntax.{w64}
use mir.Val.{SFits}

pub returns-in-Ok : goal.returns-in-Ok
returns-in-Ok c =
    let h = c.in-Ok.ensures.value.0 in
    let f : SFits w64 c.in-Ok.n = subst (SFits w64) (sym h.1) h.0.1 in
    whole_ok c.args.text.now _ h.0 (to_z-of_z w64 c.in-Ok.n f ∙ h.1)

pub returns-in-Err : goal.returns-in-Err
returns-in-Err c = whole_err c.args.text.now c.in-Err.ensures.value.0
