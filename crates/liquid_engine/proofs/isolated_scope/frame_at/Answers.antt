use Rattle.std.proofs.Common.{arith, ◌≡◌, ◌+◌, ap, ◌∙◌, string_bytes}
use Rattle.std.specs.Prelude.{codes}
use Rattle.liquid_model.specs.Data.{nil}
use Rattle.liquid_core.specs.Loops.{loop_scope, forloop_object}
use Rattle.liquid_core.specs.LoopFrames.{item_of}
use Rattle.liquid_engine.proofs.isolated_scope.frame_at.Goals as goal

pub returns : goal.returns
returns c local =
    let item = c.args.item.now in
    let e : 0 + item.at ≡ item.at = omega arith in
    let bound = loop_scope (codes "forloop") (forloop_object item.at item.source.now.count nil) in
    ap (λ k. bound c.as_str.result.now (item_of c.borrowed_items.result k)) e
    ∙ ap (λ name. bound name (item_of c.borrowed_items.result item.at)) c.as_str.ensures.value
    ∙ ap (λ of. bound (string_bytes item.each.now.variable) (of item.at)) c.borrowed_items.ensures
