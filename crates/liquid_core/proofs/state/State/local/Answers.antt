use Rattle.std.proofs.Common.{map, reverse, ap, sym, ◌∙◌}
use Rattle.liquid_core.specs.Environment.{local_of}
use Rattle.liquid_core.specs.Held.{held}
use Rattle.liquid_core.specs.LoopFrames.{scope_maps}
use Rattle.liquid_core.proofs.States.{local_in}
use Rattle.liquid_core.proofs.state.State.local.Goals as goal

pub returns-clause-value : goal.returns-clause-value
returns-clause-value c =
    let q = c.args.name.now in
    let s = c.args.self.now in
    c.find.ensures.value
    ∙ ap (λ l. local_of (scope_maps l (reverse (map held c.as_slice.result.now))) q) c.as_slice-2.ensures.value
    ∙ ap (λ l. local_of (scope_maps s.frames.items (reverse (map held l))) q) c.as_slice.ensures.value
    ∙ ap (λ m. m q) (sym (local_in s))
