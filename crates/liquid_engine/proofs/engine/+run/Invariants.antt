use Rattle.std.proofs.Common.{◌≡◌, ◌+◌, ◌-◌, ◌*◌, ◌≤◌, ◌<◌, List}
use Rattle.liquid_syntax.specs.Flats.{Maker, IsForestAt, nodes_of}
use Rattle.liquid_syntax.specs.Forest.{Forest}
use Rattle.liquid_evaluation.specs.Names.{nodes_names}
use Rattle.liquid_engine.specs.inside.Engine.{setting_of, nodes_in}
use Rattle.liquid_engine.specs.StateKept.{Keeps, AreRenderNodes}
use Rattle.liquid_engine.specs.Performs.{configuration_of}
use Rattle.liquid_core.specs.States.{layers_of, loops_of, enclosing_scopes}
use Rattle.liquid_engine.specs.inside.Reserves.{limited_in, reserve_in}
use Rattle.liquid_engine.proofs.Going.{Going}
use Rattle.liquid_engine.proofs.Silent.{SilentOn}
use Rattle.liquid_engine.proofs.PartialRuns.{reserve}
use Rattle.std.specs.Prelude.{string_bytes}
use Rattle.liquid_core.specs.ExpressionView.{expression_view}
use Rattle.liquid_syntax.specs.Flats.{bindings_view, each_view}
use Rattle.liquid_evaluation.specs.ItemLists.{all_items}
use Rattle.liquid_meaning.specs.Meaning.{deeper_meaning}
use Rattle.liquid_engine.proofs.ItemRuns.{items_left}
use Rattle.liquid_engine.proofs.RenderEach.{item_run}
use Rattle.liquid_core.specs.declared.frame.Scope.{Scope}
use Rattle.liquid_core.specs.declared.frame.LoopFrame.{LoopFrame}
use Rattle.liquid_engine.specs.inside.LoopRuns.{KeepsEnclosing, StartsAt, enclosing_names, enclosing_configuration}
use Rattle.liquid_engine.proofs.Turning.{AtTurn, CellsLead, TurnsLead, Leads}
use Rattle.liquid_engine.proofs.engine.+run.Given as goal

abbrev pub decreases-run_range : goal.decreases-run_range
decreases-run_range g l = 4 * (l.to - l.from) + 1 + reserve l.context.now.depth l.context.now.partials.now

abbrev pub decreases-run_node : goal.decreases-run_node
decreases-run_node g l = 4 * (l.to - l.at) + reserve l.context.now.depth l.context.now.partials.now

abbrev pub decreases-run_chosen : goal.decreases-run_chosen
decreases-run_chosen g l = 4 * (l.to - l.at) - 1 + reserve l.context.now.depth l.context.now.partials.now

abbrev pub decreases-buffers::run_capture : goal.decreases-buffers::run_capture
decreases-buffers::run_capture g l = 4 * (l.end - l.at) - 1 + reserve l.context.now.depth l.context.now.partials.now

abbrev pub decreases-buffers::run_ifchanged : goal.decreases-buffers::run_ifchanged
decreases-buffers::run_ifchanged g l = 4 * (l.end - l.at) - 1 + reserve l.context.now.depth l.context.now.partials.now

abbrev pub decreases-buffers::run_filtered : goal.decreases-buffers::run_filtered
decreases-buffers::run_filtered g l = 4 * (l.end - l.at) - 1 + reserve l.context.now.depth l.context.now.partials.now

abbrev pub decreases-run_include : goal.decreases-run_include
decreases-run_include g l = reserve l.context.now.depth l.context.now.partials.now + 2

abbrev pub decreases-run_jekyll_include : goal.decreases-run_jekyll_include
decreases-run_jekyll_include g l = reserve l.context.now.depth l.context.now.partials.now + 2

abbrev pub decreases-renders::run_render : goal.decreases-renders::run_render
decreases-renders::run_render g l = reserve l.context.now.depth l.context.now.partials.now + 2

abbrev pub decreases-renders::run_render_each : goal.decreases-renders::run_render_each
decreases-renders::run_render_each g l = reserve l.context.now.depth l.context.now.partials.now + 3

abbrev pub decreases-renders::run_item : goal.decreases-renders::run_item
decreases-renders::run_item g l = reserve l.context.now.depth l.context.now.partials.now + 2

abbrev pub invariant-run_range-loop-at : goal.invariant-run_range-loop-at
invariant-run_range-loop-at g l =
    let place = configuration_of g.W.CountedWrite.contents g.W.CountedWrite.failure_count in
    record {
      ordered : l.from ≤ l.at;
      going : Going (setting_of g.H.NamedFilters.named l.context) l.context.depth l.nodes l.from l.at l.to (place l.initial.out l.initial.state) (place l.out l.state);
      kept : (f : Forest Maker) → IsForestAt l.nodes l.from f l.to → Keeps (nodes_names (nodes_of f)) (setting_of g.H.NamedFilters.named l.context) l.initial.state l.state;
      alone : (f : Forest Maker) → IsForestAt l.nodes l.from f l.to → AreRenderNodes (nodes_of f) → layers_of l.state ≡ layers_of l.initial.state;
      silent : SilentOn l.nodes l.from l.at l.to;
      quiet : (place l.out l.state).sink.failures ≡ (place l.initial.out l.initial.state).sink.failures;
      loops : loops_of l.state ≡ loops_of l.initial.state;
      same_writer : l.out.writer.ghost_name ≡ l.initial.out.writer.ghost_name;
      bounded : reserve_in g.W.CountedWrite.left l.out ≤ reserve_in g.W.CountedWrite.left l.initial.out;
      limited : limited_in g.W.CountedWrite.left l.out ≡ limited_in g.W.CountedWrite.left l.initial.out;
    }

abbrev pub decreases-run_range-loop-at : goal.decreases-run_range-loop-at
decreases-run_range-loop-at g l = l.to - l.at

abbrev pub invariant-renders::run_render_each-loop-at : goal.invariant-renders::run_render_each-loop-at
invariant-renders::run_render_each-loop-at g l =
    let place = configuration_of g.W.CountedWrite.contents g.W.CountedWrite.failure_count in
    let setting = setting_of g.H.NamedFilters.named l.context in
    let one = item_run setting (deeper_meaning setting l.context.depth) (expression_view l.name) (each_view l.each) (bindings_view l.bindings) (string_bytes l.called) l.source.count in
    record {
      ordered : l.at ≤ l.source.count;
      leads : Leads (items_left one (all_items l.source.items) 0) (items_left one (all_items l.source.items) l.at) (place l.initial.out l.state) (place l.out l.state);
      same_writer : l.out.writer.ghost_name ≡ l.initial.out.writer.ghost_name;
      bounded : reserve_in g.W.CountedWrite.left l.out ≤ reserve_in g.W.CountedWrite.left l.initial.out;
      limited : limited_in g.W.CountedWrite.left l.out ≡ limited_in g.W.CountedWrite.left l.initial.out;
    }

abbrev pub decreases-renders::run_render_each-loop-at : goal.decreases-renders::run_render_each-loop-at
decreases-renders::run_render_each-loop-at g l = l.source.count - l.at

-- ---- loops

abbrev pub decreases-loops::run_for : goal.decreases-loops::run_for
decreases-loops::run_for g l = 4 * (l.bodies.last_end - l.at) - 1 + reserve l.context.now.depth l.context.now.partials.now

abbrev pub decreases-loops::run_turns : goal.decreases-loops::run_turns
decreases-loops::run_turns g l = 4 * (l.to - l.from) + 2 + reserve l.context.now.depth l.context.now.partials.now

abbrev pub decreases-loops::run_tablerow : goal.decreases-loops::run_tablerow
decreases-loops::run_tablerow g l = 4 * (l.end - l.at) - 1 + reserve l.context.now.depth l.context.now.partials.now

abbrev pub decreases-loops::run_cells : goal.decreases-loops::run_cells
decreases-loops::run_cells g l = 4 * (l.to - l.from) + 2 + reserve l.context.now.depth l.context.now.partials.now

abbrev pub invariant-loops::run_turns-turns : goal.invariant-loops::run_turns-turns
invariant-loops::run_turns-turns g l =
    let over = enclosing_configuration g.W.CountedWrite.contents g.W.CountedWrite.failure_count in
    record {
      within : l.place < l.count;
      leads : (f : Forest Maker) → IsForestAt l.nodes l.from f l.to → (before : List Scope) (t : LoopFrame) → StartsAt l.count l.initial.state before t
          → TurnsLead t (enclosing_names l.initial.state) (nodes_in g.H.NamedFilters.named l.context (nodes_of f)) l.count l.place (over l.initial.out l.initial.state) (over l.out l.state);
      frame : (before : List Scope) (t : LoopFrame) → StartsAt l.count l.initial.state before t → AtTurn before t l.place l.state;
      scopes : enclosing_scopes (layers_of l.state).scopes ≡ enclosing_scopes (layers_of l.initial.state).scopes;
      kept : (f : Forest Maker) → IsForestAt l.nodes l.from f l.to → KeepsEnclosing (nodes_names (nodes_of f)) (setting_of g.H.NamedFilters.named l.context) l.initial.state l.state;
      same_writer : l.out.writer.ghost_name ≡ l.initial.out.writer.ghost_name;
      bounded : reserve_in g.W.CountedWrite.left l.out ≤ reserve_in g.W.CountedWrite.left l.initial.out;
      limited : limited_in g.W.CountedWrite.left l.out ≡ limited_in g.W.CountedWrite.left l.initial.out;
    }

abbrev pub decreases-loops::run_turns-turns : goal.decreases-loops::run_turns-turns
decreases-loops::run_turns-turns g l = l.count - l.place

abbrev pub invariant-loops::run_cells-cells : goal.invariant-loops::run_cells-cells
invariant-loops::run_cells-cells g l =
    let over = enclosing_configuration g.W.CountedWrite.contents g.W.CountedWrite.failure_count in
    record {
      within : l.place < l.row.count;
      leads : (f : Forest Maker) → IsForestAt l.nodes l.from f l.to → (before : List Scope) (t : LoopFrame) → StartsAt l.row.count l.initial.state before t
          → CellsLead t l.row.columns.count (enclosing_names l.initial.state) (nodes_in g.H.NamedFilters.named l.context (nodes_of f)) l.row.count l.place (over l.initial.out l.initial.state) (over l.out l.state);
      frame : (before : List Scope) (t : LoopFrame) → StartsAt l.row.count l.initial.state before t → AtTurn before t l.place l.state;
      scopes : enclosing_scopes (layers_of l.state).scopes ≡ enclosing_scopes (layers_of l.initial.state).scopes;
      kept : (f : Forest Maker) → IsForestAt l.nodes l.from f l.to → KeepsEnclosing (nodes_names (nodes_of f)) (setting_of g.H.NamedFilters.named l.context) l.initial.state l.state;
      same_writer : l.out.writer.ghost_name ≡ l.initial.out.writer.ghost_name;
      bounded : reserve_in g.W.CountedWrite.left l.out ≤ reserve_in g.W.CountedWrite.left l.initial.out;
      limited : limited_in g.W.CountedWrite.left l.out ≡ limited_in g.W.CountedWrite.left l.initial.out;
    }

abbrev pub decreases-loops::run_cells-cells : goal.decreases-loops::run_cells-cells
decreases-loops::run_cells-cells g l = l.row.count - l.place
