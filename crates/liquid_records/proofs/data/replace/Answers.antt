use Rattle.std.proofs.Common.{◌≡◌, IsSome, Some, None, cond, string_bytes, option_map, sym, ap, subst, ◌∙◌}
use Rattle.liquid_model.specs.View.{view, pairs_view}
use Rattle.liquid_model.proofs.Views.{pairs_view-insert_entry, view-lookup}
use Rattle.liquid_core.specs.Held.{held}
use Rattle.liquid_core.specs.DataChanges.{with_value}
use Rattle.liquid_core.proofs.DataChanges.{value_put}
use Rattle.liquid_core.proofs.States.{held_at}
use Rattle.liquid_records.proofs.data.replace.Goals as goal

pub returns-in-Ok : goal.returns-in-Ok
returns-in-Ok c =
    value_put (string_bytes c.args.name) (view c.args.value) (pairs_view c.args.«data».now.entries) (pairs_view c.insert.new.self.entries)
    (ap pairs_view c.in-Ok.ensures.entries ∙ pairs_view-insert_entry c.args.«data».now.entries c.args.name c.args.value)

-- what stands there needs no room
pub returns-in-Err : goal.returns-in-Err
returns-in-Err c =
    let none : held c.args.«data».now (string_bytes c.args.name) ≡ None =
    held_at c.args.«data».now (string_bytes c.args.name) ∙ sym (view-lookup (string_bytes c.args.name) c.args.«data».now.entries) ∙ ap (option_map view) c.in-Err.ensures.absent in
    ap (λ b. cond b (with_value (held c.args.«data».now) (string_bytes c.args.name) (Some (view c.args.value))) (held c.insert.new.self)) (subst (λ o. IsSome o) none c.requires)
