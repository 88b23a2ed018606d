use Rattle.std.proofs.Common.{◌≡◌, ◌+◌, refl, sym, ap, ◌∙◌}
use Rattle.liquid_core.proofs.LoopFrames.{turn_in}
use Rattle.liquid_core.proofs.frame.Scope.go_on.Goals as goal

pub returns-in-LoopFrame : goal.returns-in-LoopFrame
returns-in-LoopFrame c = λ t e.
    let same : c.in-LoopFrame.frame ≡ t = ap (λ s. turn_in s t) (sym c.in-LoopFrame.is ∙ e) in (
      _,
      (
        refl,
        record {
          name = ap (λ x. x.name) same;
          items = ap (λ x. x.items) same;
          from = ap (λ x. x.from) same;
          count = ap (λ x. x.count) same;
          reversed = ap (λ x. x.reversed) same;
          kind = ap (λ x. x.kind) same;
          at = ap (λ x. x.at + 1) same;
        },
      ),
    )
