-- The record of a row, cell by cell.
use Rattle.std.proofs.Common.{List, [], ◌∷◌, suc, drop, arith, eq-eqb}
use Rattle.std.proofs.lemmas.Bool.{cond-true}
use Rattle.std.specs.Prelude.{◌≡◌, ℕ, ◌+◌, length, Some, None, Ok, Err}
use mathlib.Core.Path.{refl, sym, ap, ◌∙◌}
use Rattle.csv.specs.Records.{field_at}
use Rattle.liquid_model.specs.Data.{Pairs, no_pairs, put}
use Rattle.liquid_model.specs.Texts.{Text}
use Rattle.liquid_data.proofs.Fields.{no_field, one_field}
use Rattle.liquid_data.specs.Cells.{cell_datum, cell_read, one_more}
use Rattle.liquid_data.specs.declared.form.CellForm.{CellForm}
use Rattle.liquid_data.specs.Rows.{cells_under, record_in, with_cell}
use Rattle.liquid_data.specs.declared.record.RowFault.TheVariants.{NotUtf8}

whole : (form : CellForm) (names cells : List Text) → length cells ≡ length names → record_in form names cells ≡ cells_under form 1 (Ok no_pairs) names cells
whole form names cells same = cond-true _ _ _ (eq-eqb _ _ same)

under_none : (form : CellForm) (column : ℕ) (found : Pairs) (names : List Text) → cells_under form column (Ok found) names [] ≡ Ok found
under_none form column found [] = refl
under_none form column found (name ∷ names) = refl

-- no cell is left
pub record_end : (form : CellForm) (column : ℕ) (names cells left : List Text) (n : ℕ) (found : Pairs) → length cells ≡ length names → None ≡ field_at cells n → cells_under form 1 (Ok no_pairs) names cells ≡ cells_under form column (Ok found) left (drop n cells)
    → Ok found ≡ record_in form names cells
record_end form column names cells left n found same none inv = sym (whole form names cells same ∙ inv ∙ ap (cells_under form column (Ok found) left) (no_field cells n none) ∙ under_none form column found left)

next_under : (form : CellForm) (column : ℕ) (names cells left more : List Text) (n : ℕ) (name cell : Text) (found : Pairs) → left ≡ name ∷ more → Some cell ≡ field_at cells n → cells_under form 1 (Ok no_pairs) names cells ≡ cells_under form column (Ok found) left (drop n cells)
    → cells_under form 1 (Ok no_pairs) names cells ≡ cells_under form (one_more column) (with_cell form column (Ok found) name (cell_read cell)) more (drop (suc n) cells)
next_under form column names cells left more n name cell found first there inv = inv ∙ (λ i. cells_under form column (Ok found) (first i) (one_field cells n cell there i))

-- a cell that is no text
pub record_refused : (form : CellForm) (column : ℕ) (names cells left more : List Text) (n byte : ℕ) (name cell : Text) (found : Pairs) → length cells ≡ length names → left ≡ name ∷ more → Some cell ≡ field_at cells n → Err byte ≡ cell_read cell
    → cells_under form 1 (Ok no_pairs) names cells ≡ cells_under form column (Ok found) left (drop n cells) → Err (NotUtf8 column byte) ≡ record_in form names cells
record_refused form column names cells left more n byte name cell found same first there none inv =
    sym (whole form names cells same ∙ next_under form column names cells left more n name cell found first there inv ∙ ap (λ t. cells_under form (one_more column) (with_cell form column (Ok found) name t) more (drop (suc n) cells)) (sym none))

-- one more cell under its name
pub record_turn : (form : CellForm) (column next_column : ℕ) (names cells left more : List Text) (n k : ℕ) (name cell t : Text) (found new : Pairs) → left ≡ name ∷ more → Some cell ≡ field_at cells n → Ok t ≡ cell_read cell → new ≡ put name (cell_datum form t) found → k ≡ n + 1 → next_column ≡ one_more column
    → cells_under form 1 (Ok no_pairs) names cells ≡ cells_under form column (Ok found) left (drop n cells) → cells_under form 1 (Ok no_pairs) names cells ≡ cells_under form next_column (Ok new) more (drop k cells)
record_turn form column next_column names cells left more n k name cell t found new first there is put_in step counted inv =
    let next : suc n ≡ k = omega (arith, step) in
    next_under form column names cells left more n name cell found first there inv
    ∙ ap (λ o. cells_under form (one_more column) (with_cell form column (Ok found) name o) more (drop (suc n) cells)) (sym is)
    ∙ (λ i. cells_under form (sym counted i) (Ok (sym put_in i)) more (drop (next i) cells))
