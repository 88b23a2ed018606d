-- What stands before the first turn of a loop: which items are asked for, and what its turns bind.
--     items_asked source window e      the items that the window asks for of the source
--     cells_asked source window columns e      those with the number of columns, or nothing where
--       there are none
--     turn_items t      the items of the turns of a loop;   turns_of, cells_of      the same of
--                       what a loop begins with
--     IsFor, IsRow      the loop is at its first item, and binds what a `for` or a `tablerow` binds
use Rattle.std.specs.Prelude.{◌≡◌, ℕ, zero, suc, ◌==◌, Bool, cond, List, [], ◌∷◌, length, get_or}
use Rattle.std.specs.Prelude.{Option, Some, None, Result, Ok, Err, codes}
use Rattle.liquid_model.specs.Data.{Datum, nil}
use Rattle.liquid_model.specs.Fallible.{◌>>=◌}
use Rattle.liquid_model.specs.Maps.{Map}
use Rattle.liquid_model.specs.Texts.{Text}
use Rattle.liquid_model.specs.declared.error.ErrorKind.{ErrorKind}
use Rattle.liquid_model.specs.declared.error.ErrorKind.TheVariants.{ZeroColumns}
use Rattle.liquid_core.specs.Environment.{Environment}
use Rattle.liquid_core.specs.Expression.{Expression}
use Rattle.liquid_core.specs.Loops.{loop_scope, forloop_object, tablerow_object}
use Rattle.liquid_core.specs.Places.{place_of}
use Rattle.liquid_core.specs.LoopFrames.{frame_item_at, frame_map_at}
use Rattle.liquid_core.specs.declared.frame.Columns.{Columns}
use Rattle.liquid_core.specs.declared.frame.LoopFrame.{LoopFrame}
use Rattle.liquid_evaluation.specs.Evaluation.{source_items, amount, selected_items}
use Rattle.liquid_evaluation.specs.Tree.{Source, Window}
use Rattle.liquid_meaning.specs.Effects.{variable_or_nil}
use Rattle.liquid_meaning.specs.Loops.{columns_of}

-- item k, item k + 1 and so on, m of them
abbrev pub each_from : (ℕ → Datum) → ℕ → ℕ → List Datum
each_from item k zero = []
each_from item k (suc m) = item k ∷ each_from item (suc k) m

-- m items of a source from place o on, nil where there is none
abbrev pub window_values : List Datum → ℕ → ℕ → Bool → List Datum
window_values ds o m reversed = each_from (λ k. get_or ds (place_of reversed o m k) nil) 0 m

abbrev pub turn_items : LoopFrame → List Datum
turn_items t = each_from (frame_item_at t) 0 t.count

-- ---- for

abbrev pub items_asked : Source → Window → Environment → Result (List Datum) ErrorKind
items_asked source window e = source_items source e >>= (λ all. selected_items window all e)

-- none where no loop begins
abbrev pub loop_values : Option LoopFrame → List Datum
loop_values None = []
loop_values (Some t) = turn_items t

pub record IsFor (name : Text) (e : Environment) (t : LoopFrame) : Type 0 where
  pub first : t.at ≡ 0
  pub names : (k : ℕ) → frame_map_at t k e.local ≡
      loop_scope (codes "forloop") (forloop_object k t.count (variable_or_nil (codes "forloop") e))
      name (frame_item_at t k)

-- ---- tablerow

-- a number of columns, of which there must be one at least
abbrev pub some_columns : ℕ → Result ℕ ErrorKind
some_columns columns = cond (columns == 0) (Err ZeroColumns) (Ok columns)

-- the items and the columns; only items need a column
abbrev pub in_columns : List Datum → ℕ → Result (Option (List Datum × ℕ)) ErrorKind
in_columns [] columns = Ok None
in_columns (d ∷ ds) columns = some_columns columns >>= (λ some. Ok (Some (d ∷ ds, some)))

-- the source first, then `cols`, limit and offset
abbrev pub cells_asked : Source → Window → Option Expression → Environment →
    Result (Option (List Datum × ℕ)) ErrorKind
cells_asked source window columns e =
    source_items source e >>=
    (λ all. amount columns e >>= (λ asked. selected_items window all e >>=
    (λ items. in_columns items (columns_of (length items) asked))))

abbrev pub cells_of : Option (LoopFrame × Columns) → Option (List Datum × ℕ)
cells_of None = None
cells_of (Some r) = Some (turn_items r.0, r.1.count)

pub record IsRow (name : Text) (columns : ℕ) (t : LoopFrame) : Type 0 where
  pub first : t.at ≡ 0
  pub names : (k : ℕ) (local : Map Datum) → frame_map_at t k local ≡
      loop_scope (codes "tablerow") (tablerow_object k t.count columns) name (frame_item_at t k)

-- of what a `tablerow` begins with
abbrev pub AreRows : Text → Option (LoopFrame × Columns) → Type 0
AreRows name None = Unit {0}
AreRows name (Some r) = IsRow name r.1.count r.0
