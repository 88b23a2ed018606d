use Rattle.liquid_evaluation.proofs.laws.window_laws.Goals as goal
use Rattle.liquid_evaluation.proofs.Windows.{window_by_place, counted_window}

pub returns-clause-window : goal.returns-clause-window
returns-clause-window c = window_by_place

pub returns-clause-counted : goal.returns-clause-counted
returns-clause-counted c = counted_window
