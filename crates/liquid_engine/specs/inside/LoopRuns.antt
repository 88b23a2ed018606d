-- What the turns of a loop do, below the scope that the loop is.
--     turns_meant t local body      the turns of a `for`;   cells_meant t columns local body
--                                   those of a `tablerow`
--     StartsAt m s before t      the innermost scope of s is the loop t, at the first of its m
--                                items
use Rattle.std.specs.Prelude.{◌≡◌, ℕ, List, Option}
use Rattle.liquid_model.specs.Data.{Datum}
use Rattle.liquid_model.specs.Maps.{Map}
use Rattle.liquid_model.specs.Texts.{Text}
use Rattle.liquid_core.specs.Environment.{Names, local_of}
use Rattle.liquid_core.specs.States.{layers_of, loops_of, merged_layers, enclosing_scopes}
use Rattle.liquid_core.specs.States.{with_scope_popped}
use Rattle.liquid_core.specs.LoopFrames.{EndsIn, frame_map_at}
use Rattle.liquid_core.specs.declared.interrupt.Interrupt.{Interrupt}
use Rattle.liquid_core.specs.declared.state.State.{State}
use Rattle.liquid_core.specs.declared.frame.Scope.{Scope}
use Rattle.liquid_core.specs.declared.frame.LoopFrame.{LoopFrame}
use Rattle.liquid_evaluation.specs.Names.{partials_names}
use Rattle.liquid_engine.specs.StateKept.{LayersKept}
use Rattle.liquid_engine.specs.inside.LoopTurns.{turn_items}
use Rattle.liquid_engine.specs.Performs.{Configuration}
use Rattle.liquid_engine.specs.Sinks.{sink_of}
use Rattle.liquid_engine.specs.declared.output.Output.{Output}
use Rattle.liquid_meaning.specs.Effects.{take_interrupt}
use Rattle.liquid_meaning.specs.Loops.{cell_end, cell_start, for_all, until_break}
use Rattle.liquid_meaning.specs.Meaning.{Setting}
use Rattle.liquid_meaning.specs.Runs.{Nothing, Run, write, ◌>>=◌, with_scope}
use Rattle.liquid_meaning.specs.Within.{Within}

-- the local names outside the innermost scope
abbrev pub enclosing_names : State → Map Datum
enclosing_names s = local_of (enclosing_scopes (layers_of s).scopes)

-- where a run stands, without the innermost scope
abbrev pub enclosing_configuration : {W : Type 0} → (W → Option (List ℕ)) → (W → ℕ) → Output W →
    State → Configuration
enclosing_configuration contents failure_count out s = record {
  sink = sink_of contents failure_count out;
  environment = merged_layers (with_scope_popped (layers_of s));
}

pub record StartsAt (m : ℕ) (s : State) (before : List Scope) (t : LoopFrame) : Type 0 where
  pub innermost : EndsIn (loops_of s) before t
  pub first : t.at ≡ 0
  pub count : t.count ≡ m

-- what is kept of the layers without the innermost scope
abbrev pub KeepsEnclosing : List Text → Setting → State → State → Type 0
KeepsEnclosing names setting old new = (N : Names) → Within N names →
    Within N (partials_names setting.partials) → LayersKept N (with_scope_popped (layers_of old))
    (with_scope_popped (layers_of new))

-- ---- for

-- the body for item k, after which the interrupt is cleared
abbrev pub one_turn : LoopFrame → Map Datum → Run Nothing → ℕ → Datum → Run (Option Interrupt)
one_turn t local body k d = with_scope (frame_map_at t k local) body >>= (λ a. take_interrupt)

abbrev pub turns_meant : LoopFrame → Map Datum → Run Nothing → Run Nothing
turns_meant t local body = until_break (one_turn t local body) 0 (turn_items t)

-- ---- tablerow

-- the cell of item k
abbrev pub one_cell : LoopFrame → ℕ → Map Datum → Run Nothing → ℕ → Datum → Run Nothing
one_cell t columns local body k d =
    write (cell_start k columns) >>= (λ a. with_scope (frame_map_at t k local) body >>=
    (λ b. write (cell_end k t.count columns)))

abbrev pub cells_meant : LoopFrame → ℕ → Map Datum → Run Nothing → Run Nothing
cells_meant t columns local body = for_all (one_cell t columns local body) 0 (turn_items t)
