-- Uses written as paths.
--     paths_in members      the paths of uses by name
--     use_paths path u      the paths of what is asked of the value at a path
-- A path is a name and what leads on from its value: `.title` a member, `[]` each item of a loop.
-- One that ends there asks for the whole value. One that ends in `?` asks no more than whether
-- there is a value, its kind, and a scalar whole; after `[]` no more than how many items there are,
-- and that of each. Where a member's key can't stand in a path, its value is asked for whole.
use Rattle.std.specs.Prelude.{ℕ, Bool, true, false, cond, not, ◌&&◌, ◌||◌, ◌==◌, ◌++◌}
use Rattle.std.specs.Prelude.{List, [], ◌∷◌, codes, nat_le, length}
use Rattle.std.specs.Char.{is_ascii_alphanumeric}
use Rattle.std.specs.List.{list_all}
use Rattle.liquid_model.specs.Texts.{Text}
use Rattle.liquid_model.specs.Uses.{Use, nothing, everything, parts, Fields, no_fields, field}
use Rattle.liquid_model.specs.Uses.{ItemUse, uncounted, up_to, asks_whether, has_every}

-- a letter or a digit, `_`, `-`, or a byte of a character outside of ASCII
abbrev pub is_word_byte : ℕ → Bool
is_word_byte b = is_ascii_alphanumeric b || (b == 95) || (b == 45) || nat_le 128 b

abbrev pub is_dotted_key : Text → Bool
is_dotted_key key = not (length key == 0) && list_all is_word_byte key

-- whether each key can stand in a path
abbrev pub are_words : Fields → Bool
are_words no_fields = true
are_words (field key u more) = is_dotted_key key && are_words more

-- whether something is asked of a member
abbrev pub asks_members : Fields → Bool
asks_members no_fields = false
asks_members (field key u more) = asks_whether u || asks_members more

abbrev pub one_path : Text → List Text
one_path path = path ∷ []

abbrev pub seen_path : Text → List Text
seen_path path = (path ++ codes "?") ∷ []

-- the paths of the parts, or one for whether there is a value, or one for the whole value
abbrev pub chosen_paths : Bool → Bool → Text → List Text → List Text
chosen_paths words asked path inner = cond words (cond asked inner (seen_path path)) (one_path path)

unfoldable mutual
  pub use_paths : Text → Use → List Text
  use_paths path nothing = []
  use_paths path everything = one_path path
  use_paths path (parts members turns) =
      chosen_paths (are_words members) (has_every turns || asks_members members) path
      (member_paths path members ++ item_paths path turns)

  pub member_paths : Text → Fields → List Text
  member_paths path no_fields = []
  member_paths path (field key u more) = use_paths (path ++ (codes "." ++ key)) u
      ++ member_paths path more

  pub item_paths : Text → ItemUse → List Text
  item_paths path uncounted = []
  item_paths path (up_to n u) = cond (asks_whether u) (use_paths (path ++ codes "[]") u)
      (seen_path (path ++ codes "[]"))

-- the paths of what is asked of each name
unfoldable pub paths_in : Fields → List Text
paths_in no_fields = []
paths_in (field name u more) = use_paths name u ++ paths_in more
