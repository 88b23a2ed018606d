-- Whether a document of TOML has numbers that aren't whole.
use Rattle.std.specs.Prelude.{Bool, true, false, ◌||◌}
use Rattle.toml.specs.Data.{Data, string, integer, float, boolean, datetime, array, table}
use Rattle.toml.specs.Data.{Items, no_items, item, Members, no_members, member}

-- a float, or one is inside
abbrev mutual
  pub is_float : Data → Bool
  is_float (string s) = false
  is_float (integer z) = false
  is_float (float x) = true
  is_float (boolean b) = false
  is_float (datetime dt) = false
  is_float (array ds) = are_floats ds
  is_float (table ms) = have_floats ms

  pub are_floats : Items → Bool
  are_floats no_items = false
  are_floats (item d ds) = is_float d || are_floats ds

  pub have_floats : Members → Bool
  have_floats no_members = false
  have_floats (member k d ms) = is_float d || have_floats ms
