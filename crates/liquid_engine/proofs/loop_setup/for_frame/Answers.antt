use Rattle.std.proofs.Common.{Ok, refl, sym, ap, ◌∙◌, string_bytes}
use Rattle.liquid_core.specs.States.{environment_of}
use Rattle.liquid_evaluation.specs.ItemLists.{all_items}
use Rattle.liquid_evaluation.specs.SourceView.{source_view}
use Rattle.liquid_syntax.specs.Flats.{window_view}
use Rattle.liquid_engine.specs.inside.LoopTurns.{window_values}
use Rattle.liquid_engine.proofs.LoopItems.{asked_of, begins_for, turn_list}
use Rattle.liquid_engine.proofs.loop_setup.for_frame.Goals as goal

pub returns-clause-items : goal.returns-clause-items
returns-clause-items c =
    let all = all_items c.in_ok-all.all.items in
    let window = window_view c.args.head.now.window in
    asked_of (source_view c.args.head.now.source) window (environment_of c.args.state.now) all (window_values all c.in_ok-window.window.from c.in_ok-window.window.count window.reversed) c.in_ok-all.ensures.items (c.in_ok-window.ensures.items all (sym c.in_ok-all.ensures.count))
    ∙ ap (λ l. Ok l) (turn_list c.in_ok-all.all.items c.in_ok-window.window.from c.in_ok-window.window.count window.reversed)

pub returns-clause-begins : goal.returns-clause-begins
returns-clause-begins c =
    begins_for _ (string_bytes c.args.head.now.variable) (environment_of c.args.state.now) c.in_ok-parent.parent refl refl c.as_str.ensures.value c.in_ok-parent.ensures
