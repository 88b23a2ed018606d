use Rattle.liquid_model.specs.View.{view}
use Rattle.liquid_core.proofs.Hosts.{answers_or_memory_if}
use Rattle.liquid_core.proofs.host_filters.evaluate_filter.Goals as goal

pub returns : goal.returns
returns g c = c.with_run_kind.ensures _ (answers_or_memory_if _ view _ _ c.filter_answer.ensures)
