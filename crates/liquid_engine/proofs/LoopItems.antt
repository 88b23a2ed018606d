-- The items of a loop before its first turn.
use Rattle.std.proofs.Common.{◌≡◌, ℕ, zero, suc, ◌+◌, ◌-◌, ◌<◌, Bool, List, [], ◌∷◌, length, get_or, slice_get, Option, Some, Result, Ok, Err, IsOk, refl, sym, ap, subst, ◌∙◌, arith, codes}
use Rattle.std.specs.Prelude.{ℤ}
use mathlib.Core.Path.{fun_ext}
use Rattle.std.proofs.lemmas.Option.{same_Some}
use Rattle.liquid_model.specs.Answer.{Faulted}
use Rattle.liquid_model.specs.Data.{Datum, nil}
use Rattle.liquid_model.specs.Fallible.{◌>>=◌}
use Rattle.liquid_model.specs.Texts.{Text}
use Rattle.liquid_model.specs.View.{view}
use Rattle.liquid_model.specs.declared.value.Value.{Value}
use Rattle.liquid_model.specs.declared.error.ErrorKind.{ErrorKind}
use Rattle.liquid_core.specs.Environment.{Environment}
use Rattle.liquid_core.specs.Expression.{Expression}
use Rattle.liquid_core.specs.Places.{place_of}
use Rattle.liquid_core.specs.LoopFrames.{frame_item_at, item_of, loop_name, loop_object, parent_of}
use Rattle.liquid_core.specs.Loops.{forloop_object, loop_scope}
use Rattle.liquid_core.specs.declared.frame.Items.{Items}
use Rattle.liquid_core.specs.declared.frame.LoopFrame.{LoopFrame}
use Rattle.liquid_core.specs.declared.frame.LoopKind.TheVariants.{For}
use Rattle.liquid_evaluation.specs.Evaluation.{amount, selected_items, skipped, source_items, selected_count, window_items}
use Rattle.liquid_evaluation.specs.ItemLists.{all_items}
use Rattle.liquid_evaluation.specs.Tree.{Source, Window}
use Rattle.liquid_evaluation.proofs.Calls.{faulted_as, faulted_then}
use Rattle.liquid_evaluation.proofs.ItemPlaces.{item_by_place}
use Rattle.liquid_evaluation.proofs.Windows.{window_by_place}
use Rattle.liquid_engine.specs.inside.LoopTurns.{IsFor, cells_asked, each_from, in_columns, items_asked, window_values, some_columns}
use Rattle.liquid_meaning.specs.Effects.{variable_or_nil}
use Rattle.liquid_meaning.specs.Loops.{columns_of}

-- ---- lists by place

pub listed_from : (xs : List Datum) (item : ℕ → Datum) (k : ℕ) → ((i : ℕ) → i < length xs → slice_get xs i ≡ Some (item (k + i))) → xs ≡ each_from item k (length xs)
listed_from [] item k h = refl
listed_from (x ∷ xs) item k h =
    let head : x ≡ item k = same_Some x (item k) (h 0 (omega arith) ∙ ap (λ n. Some (item n)) (let e : k + 0 ≡ k = omega arith in e)) in
    let tail : xs ≡ each_from item (suc k) (length xs) = listed_from xs item (suc k) (λ i lt. h (suc i) (omega arith) ∙ ap (λ n. Some (item n)) (let e : k + suc i ≡ suc k + i = omega arith in e)) in
    λ i. head i ∷ tail i

pub window_placed : (ds : List Datum) (limit offset : Option ℤ) (reversed : Bool)
    → window_items ds limit offset reversed ≡ window_values ds (skipped (length ds) offset) (selected_count (length ds) (skipped (length ds) offset) limit) reversed
window_placed ds limit offset reversed =
    let a = window_by_place ds limit offset reversed in
    let item : ℕ → Datum = λ k. get_or ds (place_of reversed (skipped (length ds) offset) (selected_count (length ds) (skipped (length ds) offset) limit) k) nil in
    listed_from (window_items ds limit offset reversed) item 0 (λ i lt. a.each i (subst (λ n. i < n) a.count lt) ∙ ap (λ n. Some (item n)) (let e : i ≡ 0 + i = omega arith in e))
    ∙ ap (each_from item 0) a.count

pub each_count : (item : ℕ → Datum) (k m : ℕ) → length (each_from item k m) ≡ m
each_count item k zero = refl
each_count item k (suc m) = ap suc (each_count item (suc k) m)

pub each_more : (item : ℕ → Datum) (k m : ℕ) → k < m → each_from item k (m - k) ≡ item k ∷ each_from item (k + 1) (m - (k + 1))
each_more item k m lt =
    let n = m - (k + 1) in
    let is : m - k ≡ suc n = omega arith in
    ap (each_from item k) is ∙ ap (λ j. item k ∷ each_from item j n) (let e : suc k ≡ k + 1 = omega arith in e)

pub each_none : (item : ℕ → Datum) (k m : ℕ) → k ≡ m → each_from item k (m - k) ≡ []
each_none item k m is = ap (each_from item k) (let e : m - k ≡ 0 = omega (arith, is) in e)

-- ---- windows

-- what an evaluated window asks for
pub asked_placed : (window : Window) (ds : List Datum) (e : Environment) (limit offset : Option ℤ) (n o m : ℕ) → length ds ≡ n → amount window.limit e ≡ Ok limit → amount window.offset e ≡ Ok offset
    → o ≡ skipped n offset → m ≡ selected_count n (skipped n offset) limit → selected_items window ds e ≡ Ok (window_values ds o m window.reversed)
unfolding selected_items
asked_placed window ds e limit offset n o m long l f is many =
    ap (λ r. r >>= (λ limit. amount window.offset e >>= (λ offset. Ok (window_items ds limit offset window.reversed)))) l
    ∙ ap (λ r. r >>= (λ offset. Ok (window_items ds limit offset window.reversed))) f
    ∙ ap (λ x. Ok x) (window_placed ds limit offset window.reversed)
    ∙ (λ i. Ok (window_values ds (first i) (many_at i) window.reversed))
  where
    first : skipped (length ds) offset ≡ o
    first = ap (λ k. skipped k offset) long ∙ sym is

    many_at : selected_count (length ds) (skipped (length ds) offset) limit ≡ m
    many_at = ap (λ k. selected_count k (skipped k offset) limit) long ∙ sym many

pub limit_faulted : (window : Window) (ds : List Datum) (e : Environment) (kind : ErrorKind) → Faulted kind (amount window.limit e) → Faulted kind (selected_items window ds e)
unfolding selected_items
limit_faulted window ds e kind h = faulted_then kind (amount window.limit e) (λ limit. amount window.offset e >>= (λ offset. Ok (window_items ds limit offset window.reversed))) h

pub offset_faulted : (window : Window) (ds : List Datum) (e : Environment) (limit : Option ℤ) (kind : ErrorKind) → amount window.limit e ≡ Ok limit → Faulted kind (amount window.offset e) → Faulted kind (selected_items window ds e)
unfolding selected_items
offset_faulted window ds e limit kind l h =
    faulted_as kind _ _ (ap (λ r. r >>= (λ limit. amount window.offset e >>= (λ offset. Ok (window_items ds limit offset window.reversed)))) l)
    (faulted_then kind (amount window.offset e) (λ offset. Ok (window_items ds limit offset window.reversed)) h)

-- ---- the turns of a loop

-- the items of the turns are those of the source at their places
pub turn_list : (items : Items) (o m : ℕ) (reversed : Bool) → window_values (all_items items) o m reversed ≡ each_from (λ k. item_of items (place_of reversed o m k)) 0 m
turn_list items o m reversed = ap (λ f. each_from f 0 m) (fun_ext (λ k. sym (item_by_place items (place_of reversed o m k))))

module _ (source : Source) (window : Window) (e : Environment) where
  pub asked_of : (all items : List Datum) → source_items source e ≡ Ok all → selected_items window all e ≡ Ok items → items_asked source window e ≡ Ok items
  asked_of all items is h = ap (λ r. r >>= (λ all. selected_items window all e)) is ∙ h

-- ---- `forloop` before the loop

-- a loop at its first item that was given what was found elsewhere
pub begins_for : (t : LoopFrame) (name : Text) (e : Environment) (parent : Value) → t.at ≡ 0 → t.kind ≡ For parent → t.name.now ≡ name → parent_of (e.local (codes "forloop")) (view parent) ≡ variable_or_nil (codes "forloop") e → IsFor name e t
begins_for t name e parent first kind called is = record {
  first = first;
  names = λ k i. loop_scope (loop_name (kind i)) (around k i) (called i) (frame_item_at t k);
}
  where
    around : (k : ℕ) → loop_object t.kind k t.count e.local ≡ forloop_object k t.count (variable_or_nil (codes "forloop") e)
    around k = ap (λ k0. loop_object k0 k t.count e.local) kind ∙ ap (λ d. forloop_object k t.count d) is

-- ---- columns

module _ (source : Source) (window : Window) (columns : Option Expression) (e : Environment) where
  abbrev in_rows : List Datum → Option ℤ → Result (Option (List Datum × ℕ)) ErrorKind
  in_rows all asked = selected_items window all e >>= (λ items. in_columns items (columns_of (length items) asked))

  abbrev of_source : List Datum → Result (Option (List Datum × ℕ)) ErrorKind
  of_source all = amount columns e >>= in_rows all

  known : (all : List Datum) (asked : Option ℤ) → source_items source e ≡ Ok all → amount columns e ≡ Ok asked → cells_asked source window columns e ≡ in_rows all asked
  known all asked is many = ap (λ r. r >>= of_source) is ∙ ap (λ r. r >>= in_rows all) many

  pub rows_window_faulted : (all : List Datum) (asked : Option ℤ) (kind : ErrorKind) → source_items source e ≡ Ok all → amount columns e ≡ Ok asked → Faulted kind (selected_items window all e) → Faulted kind (cells_asked source window columns e)
  rows_window_faulted all asked kind is many h =
      faulted_as kind _ _ (known all asked is many) (faulted_then kind (selected_items window all e) (λ items. in_columns items (columns_of (length items) asked)) h)

  -- where the columns are no fault, the window's is the first
  pub rows_window_next : (all : List Datum) (kind : ErrorKind) → source_items source e ≡ Ok all → IsOk (amount columns e) → Faulted kind (selected_items window all e) → Faulted kind (cells_asked source window columns e)
  rows_window_next all kind is columns_ok h = on (amount columns e) refl columns_ok
    where
      on : (r : Result (Option ℤ) ErrorKind) → amount columns e ≡ r → IsOk r → Faulted kind (cells_asked source window columns e)
      on (Ok asked) many ok = rows_window_faulted all asked kind is many h
      on (Err k) many ok = absurd cc

  pub cells_asked_of : (all items : List Datum) (asked : Option ℤ) → source_items source e ≡ Ok all → amount columns e ≡ Ok asked → selected_items window all e ≡ Ok items
      → cells_asked source window columns e ≡ in_columns items (columns_of (length items) asked)
  cells_asked_of all items asked is many h = known all asked is many ∙ ap (λ r. r >>= (λ items. in_columns items (columns_of (length items) asked))) h

-- items in some columns
in_some : (item : ℕ → Datum) (m columns some : ℕ) → 0 < m → some_columns columns ≡ Ok some → in_columns (each_from item 0 m) columns ≡ Ok (Some (each_from item 0 m, some))
in_some item zero columns some lt h = absurd (omega arith)
in_some item (suc m) columns some lt h = ap (λ r. r >>= (λ some. Ok (Some (each_from item 0 (suc m), some)))) h

in_faulted : (item : ℕ → Datum) (m columns : ℕ) (kind : ErrorKind) → 0 < m → Faulted kind (some_columns columns) → Faulted kind (in_columns (each_from item 0 m) columns)
in_faulted item zero columns kind lt h = absurd (omega arith)
in_faulted item (suc m) columns kind lt h = faulted_then kind (some_columns columns) (λ some. Ok (Some (each_from item 0 (suc m), some))) h

module _ (source : Source) (window : Window) (columns : Option Expression) (e : Environment) (all : List Datum) (asked : Option ℤ) (o m : ℕ) (is : source_items source e ≡ Ok all) (many : amount columns e ≡ Ok asked) (h : selected_items window all e ≡ Ok (window_values all o m window.reversed)) where
  in_these : cells_asked source window columns e ≡ in_columns (window_values all o m window.reversed) (columns_of m asked)
  in_these =
      cells_asked_of source window columns e all (window_values all o m window.reversed) asked is many h
      ∙ ap (λ n. in_columns (window_values all o m window.reversed) (columns_of n asked)) (each_count (λ k. get_or all (place_of window.reversed o m k) nil) 0 m)

  pub row_faulted : (kind : ErrorKind) → 0 < m → Faulted kind (some_columns (columns_of m asked)) → Faulted kind (cells_asked source window columns e)
  row_faulted kind some f = faulted_as kind _ _ in_these (in_faulted (λ k. get_or all (place_of window.reversed o m k) nil) m (columns_of m asked) kind some f)

  pub row_cells : (count : ℕ) → 0 < m → some_columns (columns_of m asked) ≡ Ok count → cells_asked source window columns e ≡ Ok (Some (window_values all o m window.reversed, count))
  row_cells count some f = in_these ∙ in_some (λ k. get_or all (place_of window.reversed o m k) nil) m (columns_of m asked) count some f
