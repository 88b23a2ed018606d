use Rattle.std.proofs.Common.{◌≡◌, map, reverse, ap, sym, ◌∙◌}
use Rattle.liquid_core.specs.Environment.{local_of}
use Rattle.liquid_core.specs.Held.{held}
use Rattle.liquid_core.specs.LoopFrames.{scope_maps}
use Rattle.liquid_core.specs.States.{environment_of}
use Rattle.liquid_core.proofs.DirectValues.{directly_as, directly_local}
use Rattle.liquid_core.proofs.States.{local_in, beside_as}
use Rattle.liquid_core.proofs.state.State.direct_value.Goals as goal

pub returns-in-Some : goal.returns-in-Some
returns-in-Some c =
    let q = c.args.name.now in
    let s = c.args.self.now in
    c.in-Some.ensures
    ∙ beside_as s q (ap (λ l. local_of (reverse (map held l)) q) (sym c.as_slice.ensures.value) ∙ c.in-Nothing.ensures
    ∙ ap (λ l. local_of (scope_maps l (reverse (map held c.as_slice.result.now))) q) c.as_slice-2.ensures.value
    ∙ ap (λ l. local_of (scope_maps s.frames.items (reverse (map held l))) q) c.as_slice.ensures.value
    ∙ ap (λ m. m q) (sym (local_in s)))

pub returns-in-None : goal.returns-in-None
returns-in-None c =
    let q = c.args.name.now in
    let s = c.args.self.now in
    c.in-None.ensures
    ∙ beside_as s q (ap (λ l. local_of (reverse (map held l)) q) (sym c.as_slice.ensures.value) ∙ c.in-Nothing.ensures
    ∙ ap (λ l. local_of (scope_maps l (reverse (map held c.as_slice.result.now))) q) c.as_slice-2.ensures.value
    ∙ ap (λ l. local_of (scope_maps s.frames.items (reverse (map held l))) q) c.as_slice.ensures.value
    ∙ ap (λ m. m q) (sym (local_in s)))

pub returns-in_default : goal.returns-in_default
returns-in_default c =
    let q = c.args.name.now in
    let s = c.args.self.now in
    let same : local_of (scope_maps c.as_slice-2.result.now (reverse (map held c.as_slice.result.now))) q ≡ (environment_of s).local q =
    ap (λ l. local_of (scope_maps l (reverse (map held c.as_slice.result.now))) q) c.as_slice-2.ensures.value
    ∙ ap (λ l. local_of (scope_maps s.frames.items (reverse (map held l))) q) c.as_slice.ensures.value
    ∙ ap (λ m. m q) (sym (local_in s)) in
    directly_local s q c.direct_value.result _ (directly_as c.direct_value.result _ _ _ same c.direct_value.ensures) c.in_default.not-Nothing
