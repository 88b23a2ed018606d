use Rattle.std.proofs.Common.{refl, ap, ◌∙◌}
use Rattle.csv.specs.Records.{field_at, fields_of}
use Rattle.liquid_data.specs.Heads.{columns_view}
use Rattle.liquid_data.proofs.Columns.{column_fault, column_turn, columns_end, columns_start}
use Rattle.liquid_data.proofs.head.column_names.Goals as goal

pub loop-cell-init : goal.loop-cell-init
loop-cell-init c =
    let it = c.into_iter-cell-iterator.ensures.into_iter_gives ∙ refl in
    record {
      named = columns_start c.args.form (fields_of c.args.head.now) c.new.result.items c.new-2.result _ c.new.ensures.items c.new-2.ensures.empty (ap (λ x. x.at) it ∙ c.iter-cell-items.ensures.at);
      row = ap (λ x. x.row.now) it ∙ c.iter-cell-items.ensures.row;
    }

pub loop-cell-preserved : goal.loop-cell-preserved
loop-cell-preserved c =
    let inv = c.loop-cell.invariant in
    let it = c.loop-cell.cell-iterator in
    let steps = c.in-Some.ensures.steps in
    record {
      named = column_turn c.args.form (fields_of c.args.head.now) it.at c.next.new.self.at c.in-Some.cell.now (columns_view c.loop-cell.columns) (columns_view c.add_column.new.columns) c.in_ok-fault.field-0 _
          (steps.1 ∙ ap (λ r. field_at (fields_of r) it.at) inv.row) steps.2 c.in_default.is c.in_ok-fault.ensures inv.named;
      row = ap (λ r. r.now) steps.0 ∙ inv.row;
    }

pub returns-in-Err : goal.returns-in-Err
returns-in-Err c =
    let inv = c.loop-cell.invariant in
    let it = c.loop-cell.cell-iterator in
    column_fault c.args.form (fields_of c.args.head.now) it.at c.in-Some.cell.now (columns_view c.loop-cell.columns) (columns_view c.add_column.new.columns) c.in_ok-fault.field-0 c.in-Err.fault
    (c.in-Some.ensures.steps.1 ∙ ap (λ r. field_at (fields_of r) it.at) inv.row) c.in-Err.is c.in_ok-fault.ensures inv.named

pub returns : goal.returns
returns c =
    let inv = c.loop-cell.invariant in
    let it = c.loop-cell.cell-iterator in
    columns_end c.args.form (fields_of c.args.head.now) it.at (columns_view c.loop-cell.columns) (c.in-None.ensures.steps.1 ∙ ap (λ r. field_at (fields_of r) it.at) inv.row) inv.named
