-- The columns of a row, cell by cell.
use Rattle.std.proofs.Common.{List, [], suc, drop, map, arith}
use Rattle.std.specs.Prelude.{◌≡◌, ℕ, ◌+◌, Some, None, Result, Ok, Err, String, string_bytes}
use Rattle.std.specs.BTreeMap.{BTreeMap}
use Rattle.std.specs.declared.alloc.Global.{Global}
use mathlib.Core.Path.{sym, ap, ◌∙◌}
use Rattle.csv.specs.Records.{field_at}
use Rattle.liquid_model.specs.Texts.{Text}
use Rattle.liquid_data.proofs.Fields.{no_field, one_field}
use Rattle.liquid_data.proofs.Places.{named, none_yet}
use Rattle.liquid_data.specs.Cells.{cell_text}
use Rattle.liquid_data.specs.Heads.{NamedColumns, added_view, all_named, column_names, names_alone, none_named, one_name}
use Rattle.liquid_data.specs.declared.form.NameForm.{NameForm}
use Rattle.liquid_data.specs.declared.head.HeadFault.{HeadFault}

pub columns_start : (form : NameForm) (fs : List Text) (names : List (String Global)) (m : BTreeMap (String Global) ℕ) (n : ℕ) → names ≡ [] → m.entries ≡ [] → n ≡ 0 → all_named form (Ok none_named) fs ≡ all_named form (Ok (named names m)) (drop n fs)
columns_start form fs names m n p q r = λ i. all_named form (Ok (record { names = map string_bytes (sym p i); places = sym (none_yet m q) i })) (drop (sym r i) fs)

-- what the cell that is next makes of the columns so far
next_is : (form : NameForm) (fs : List Text) (n : ℕ) (c : Text) (before : NamedColumns) → Some c ≡ field_at fs n → all_named form (Ok none_named) fs ≡ all_named form (Ok before) (drop n fs) → all_named form (Ok none_named) fs ≡ all_named form (one_name form before (cell_text c)) (drop (suc n) fs)
next_is form fs n c before there inv = inv ∙ ap (all_named form (Ok before)) (one_field fs n c there)

pub column_turn : (form : NameForm) (fs : List Text) (n k : ℕ) (c : Text) (before after : NamedColumns) (r : Result (Unit {0}) HeadFault) (u : Unit {0}) → Some c ≡ field_at fs n → k ≡ n + 1 → r ≡ Ok u → added_view r after ≡ one_name form before (cell_text c)
    → all_named form (Ok none_named) fs ≡ all_named form (Ok before) (drop n fs) → all_named form (Ok none_named) fs ≡ all_named form (Ok after) (drop k fs)
column_turn form fs n k c before after r u there step is added inv =
    let next : suc n ≡ k = omega (arith, step) in
    next_is form fs n c before there inv ∙ (λ i. all_named form ((sym added ∙ ap (λ x. added_view x after) is) i) (drop (next i) fs))

pub column_fault : (form : NameForm) (fs : List Text) (n : ℕ) (c : Text) (before after : NamedColumns) (r : Result (Unit {0}) HeadFault) (fault : HeadFault) → Some c ≡ field_at fs n → r ≡ Err fault → added_view r after ≡ one_name form before (cell_text c)
    → all_named form (Ok none_named) fs ≡ all_named form (Ok before) (drop n fs) → Err fault ≡ column_names form fs
column_fault form fs n c before after r fault there is added inv =
    sym (ap names_alone (next_is form fs n c before there inv ∙ ap (λ x. all_named form x (drop (suc n) fs)) (sym added ∙ ap (λ x. added_view x after) is)))

pub columns_end : (form : NameForm) (fs : List Text) (n : ℕ) (m : NamedColumns) → None ≡ field_at fs n → all_named form (Ok none_named) fs ≡ all_named form (Ok m) (drop n fs) → Ok m.names ≡ column_names form fs
columns_end form fs n m none inv = sym (ap names_alone (inv ∙ ap (all_named form (Ok m)) (no_field fs n none)))
