-- Laws of paths in data.
--     FirstLackIsLack      the first that lacks a path is a map on the way without the next key
--     NothingElseLacks      where nothing lacks it, each map on the way has the next key
use Rattle.std.specs.Prelude.{◌≡◌, ◌⊎◌, false, bytes_eq, codes, string_bytes}
use Rattle.std.specs.Prelude.{List, [], ◌∷◌, ◌++◌, length, Some, None, is_some, true, String}
use Rattle.std.specs.declared.alloc.Global.{Global}
use Rattle.liquid_model.specs.Data.{Datum, object, Pairs}
use Rattle.liquid_model.specs.Find.{value_at}
use Rattle.liquid_warnings.specs.DataPaths.{Lacking, first_lack, values_along}
use Rattle.liquid_warnings.specs.declared.data_path.Step.{Step}
use Rattle.liquid_warnings.specs.declared.data_path.Step.TheVariants.{Key}

abbrev pub IsElementOf : Datum → List Datum → Type 0
IsElementOf d [] = ⊥
IsElementOf d (x ∷ xs) = (d ≡ x) ⊎ IsElementOf d xs

-- the steps before a key lead to the map, which hasn't it
pub record IsLack (p : List Step) (d : Datum) (l : Lacking) : Type 0 where
  pub before : List Step
  pub key : String Global
  pub after : List Step
  pub path_is : p ≡ before ++ Key key ∷ after
  pub left_is : length after ≡ l.left
  pub on_the_way : IsElementOf (object l.among) (values_along before d)
  pub none_there : value_at (string_bytes key) l.among ≡ None

abbrev pub FirstLackIsLack : Type 0
FirstLackIsLack = (p : List Step) (d : Datum) (l : Lacking) → first_lack p d ≡ Some l → IsLack p d l

abbrev pub NothingElseLacks : Type 0
NothingElseLacks =
    (before after : List Step) (key : String Global) (d : Datum) (ps : Pairs)
    → first_lack (before ++ Key key ∷ after) d ≡ None
    → IsElementOf (object ps) (values_along before d)
    → bytes_eq (string_bytes key) (codes "size") ≡ false
    → is_some (value_at (string_bytes key) ps) ≡ true
