-- The names of columns, which the cells of the first row are.
--     column_names form cells      the names, or what is wrong with the first column that has none
--                                  of its own
use Rattle.std.specs.Prelude.{ℕ, ◌+◌, ◌==◌, cond, length, List, [], ◌∷◌, ◌++◌, map}
use Rattle.std.specs.Prelude.{Option, Some, None, Result, Ok, Err, String, Vec, codes}
use Rattle.std.specs.Prelude.{string_bytes}
use Rattle.std.specs.BTreeMap.{get_by_text}
use Rattle.std.specs.Fmt.{decimal}
use Rattle.std.specs.declared.alloc.Global.{Global}
use Rattle.liquid_model.specs.Maps.{Map, empty, insert}
use Rattle.liquid_model.specs.Texts.{Text}
use Rattle.liquid_data.specs.Cells.{cell_text}
use Rattle.liquid_data.specs.Names.{column_name}
use Rattle.liquid_data.specs.declared.form.NameForm.{NameForm}
use Rattle.liquid_data.specs.declared.head.Columns.{Columns}
use Rattle.liquid_data.specs.declared.head.HeadFault.{HeadFault}
use Rattle.liquid_data.specs.declared.head.HeadFault.TheVariants.{NotUtf8, Unnamed, Again}

-- the names so far, and each of them with its column, from 1
pub record NamedColumns : Type 0 where
  pub names : List Text
  pub places : Map ℕ

abbrev pub none_named : NamedColumns
none_named = record { names = []; places = empty }

-- the column after those so far
abbrev pub next_column : NamedColumns → ℕ
next_column m = length m.names + 1

abbrev pub with_column : NamedColumns → Text → ℕ → NamedColumns
with_column m name column = record {
  names = m.names ++ name ∷ [];
  places = insert m.places name column;
}

-- a name that stands at a column before is none of its own
abbrev pub unless_before : NamedColumns → Text → Option ℕ → Result NamedColumns HeadFault
unless_before m name (Some before) = Err (Again before (next_column m))
unless_before m name None = Ok (with_column m name (next_column m))

abbrev pub if_new : NamedColumns → Text → Result NamedColumns HeadFault
if_new m name = unless_before m name (m.places name)

-- one more column, of this text
abbrev pub one_name : NameForm → NamedColumns → Option Text → Result NamedColumns HeadFault
one_name form m None = Err (NotUtf8 (next_column m))
one_name form m (Some name) = cond (length name == 0) (Err (Unnamed (next_column m)))
    (if_new m (column_name form name))

abbrev pub all_named : NameForm → Result NamedColumns HeadFault → List Text →
    Result NamedColumns HeadFault
all_named form (Err fault) cells = Err fault
all_named form (Ok m) [] = Ok m
all_named form (Ok m) (cell ∷ cells) = all_named form (one_name form m (cell_text cell)) cells

abbrev pub names_alone : Result NamedColumns HeadFault → Result (List Text) HeadFault
names_alone (Ok m) = Ok m.names
names_alone (Err fault) = Err fault

abbrev pub column_names : NameForm → List Text → Result (List Text) HeadFault
column_names form cells = names_alone (all_named form (Ok none_named) cells)

-- ---- what the message says of a fault

abbrev pub head_fault_text : HeadFault → Text
head_fault_text (NotUtf8 column) = codes "the name of column " ++ (decimal column
    ++ codes " isn't UTF-8; save the table as UTF-8")
head_fault_text (Unnamed column) = codes "column " ++ (decimal column
    ++ codes " has no name in the first row")
head_fault_text (Again before column) = codes "columns " ++ (decimal before ++ (codes " and "
    ++ (decimal column ++ codes " have the same name in the first row")))

-- ---- as contracts see them

abbrev pub columns_view : Columns → NamedColumns
columns_view c = record {
  names = map string_bytes c.names.items;
  places = λ name. get_by_text c.places name;
}

abbrev pub added_view : Result (Unit {0}) HeadFault → NamedColumns → Result NamedColumns HeadFault
added_view (Ok done) m = Ok m
added_view (Err fault) m = Err fault

abbrev pub names_view : Result (Vec (String Global) Global) HeadFault
    → Result (List Text) HeadFault
names_view (Ok names) = Ok (map string_bytes names.items)
names_view (Err fault) = Err fault
