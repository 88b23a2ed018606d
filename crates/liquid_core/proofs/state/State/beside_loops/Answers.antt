use Rattle.std.proofs.Common.{sym, ap, ◌∙◌}
use Rattle.liquid_core.proofs.States.{beside_globals, held_at}
use Rattle.liquid_core.proofs.state.State.beside_loops.Goals as goal

pub returns : goal.returns
returns c =
    let q = c.args.name.now in
    beside_globals c.args.self.now q c.deref.result.now _ c.deref.ensures.value c.in_default.ensures c.in_default-look_up.ensures c.in_default-get_index.ensures
    (c.look_up-2.ensures ∙ sym (held_at c.object.result.now q) ∙ ap (λ m. m q) c.object.ensures)
