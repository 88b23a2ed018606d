-- A run over data that is borrowed, and put back.
use Rattle.std.proofs.Common.{◌≡◌, Result, sym, ap, ◌∙◌, subst}
use Rattle.liquid_model.specs.Data.{Datum}
use Rattle.liquid_model.specs.Maps.{Map}
use Rattle.liquid_model.specs.declared.error.Error.{Error}
use Rattle.liquid_core.specs.Environment.{Names}
use Rattle.liquid_core.specs.States.{Layers, layers_with, merged_layers}
use Rattle.liquid_core.specs.declared.state.Parts.{Parts}
use Rattle.liquid_meaning.specs.Runs.{Nothing, Run}
use Rattle.liquid_engine.specs.StateKept.{LayersKept}
use Rattle.liquid_engine.specs.Performs.{Performs}
use Rattle.liquid_engine.specs.Sinks.{Sink}

-- the state over the borrowed data begins as the state was
pub borrowed_first : (old first : Layers) (p : Parts) (d x : Map Datum) → layers_with p d ≡ old → first ≡ layers_with p x → x ≡ d → first ≡ old
borrowed_first old first p d x taken over same = over ∙ ap (layers_with p) same ∙ taken

-- a run leaves the data, so that the state is what the run left once its own data is back
pub borrowed_last : (first last new : Layers) (p q : Parts) (d x e : Map Datum) → first ≡ layers_with p x → x ≡ d → last.globals ≡ first.globals
    → layers_with q e ≡ last → new ≡ layers_with q d → new ≡ last
borrowed_last first last new p q d x e over same kept taken back =
    let left : e ≡ d = ap (λ l. l.globals) taken ∙ kept ∙ ap (λ l. l.globals) over ∙ same in
    back ∙ ap (layers_with q) (sym left) ∙ taken

pub borrowed_performs : (r : Result (Unit {0}) Error) (m : Run Nothing) (a b : Sink) (old first last new : Layers) → first ≡ old → new ≡ last
    → Performs r m (record { sink = a; environment = merged_layers first }) (record { sink = b; environment = merged_layers last })
    → Performs r m (record { sink = a; environment = merged_layers old }) (record { sink = b; environment = merged_layers new })
borrowed_performs r m a b old first last new began ended h =
    subst (λ l. Performs r m (record { sink = a; environment = merged_layers l }) (record { sink = b; environment = merged_layers new })) began
    (subst (λ l. Performs r m (record { sink = a; environment = merged_layers first }) (record { sink = b; environment = merged_layers l })) (sym ended) h)

pub borrowed_kept : (N : Names) (old first last new : Layers) → first ≡ old → new ≡ last → LayersKept N first last → LayersKept N old new
borrowed_kept N old first last new began ended h = subst (λ l. LayersKept N l new) began (subst (LayersKept N first) (sym ended) h)
