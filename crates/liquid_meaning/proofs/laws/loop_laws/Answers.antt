use Rattle.liquid_meaning.proofs.laws.loop_laws.Goals as goal
use Rattle.liquid_meaning.proofs.Items.{window_law, range_law}
use Rattle.liquid_meaning.proofs.Cells.{row_law}
use Rattle.liquid_evaluation.proofs.Windows.{counted_window}

pub returns-clause-window : goal.returns-clause-window
returns-clause-window c = window_law

pub returns-clause-range : goal.returns-clause-range
returns-clause-range c = range_law

pub returns-clause-counted : goal.returns-clause-counted
returns-clause-counted c = counted_window

pub returns-clause-rows : goal.returns-clause-rows
returns-clause-rows c = row_law
