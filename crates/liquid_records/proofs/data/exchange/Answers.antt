use Rattle.std.proofs.Common.{string_bytes, option_map, sym, ap, ◌∙◌}
use Rattle.liquid_model.specs.View.{view, pairs_view}
use Rattle.liquid_model.proofs.Views.{pairs_view-insert_entry, view-lookup}
use Rattle.liquid_core.proofs.States.{held_at}
use Rattle.liquid_core.proofs.DataChanges.{value_put}
use Rattle.liquid_records.proofs.data.exchange.Goals as goal

pub returns-clause-put : goal.returns-clause-put
returns-clause-put c =
    value_put (string_bytes c.args.name) (view c.args.value) (pairs_view c.args.«data».now.entries) (pairs_view c.insert.new.self.entries)
    (ap pairs_view c.in_ok-insert.ensures.entries ∙ pairs_view-insert_entry c.args.«data».now.entries c.args.name c.args.value)

pub returns-clause-before : goal.returns-clause-before
returns-clause-before c =
    ap (option_map view) c.in_ok-insert.ensures.old ∙ view-lookup (string_bytes c.args.name) c.args.«data».now.entries ∙ sym (held_at c.args.«data».now (string_bytes c.args.name))
