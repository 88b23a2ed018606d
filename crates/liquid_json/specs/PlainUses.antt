-- Uses by which a reader of data builds what is asked for and no more.
use Rattle.std.specs.Prelude.{Bool, true, not, ◌&&◌, ◌||◌, codes, Option, Some, None, String}
use Rattle.std.specs.BTreeMap.{BTreeMap}
use Rattle.std.specs.declared.alloc.Global.{Global}
use Rattle.liquid_model.specs.Texts.{same_text}
use Rattle.liquid_model.specs.Uses.{Use, nothing, everything, parts, Fields, no_fields, field}
use Rattle.liquid_model.specs.Uses.{ItemUse, uncounted, up_to, asks_whether, is_place}
use Rattle.liquid_model.specs.Projected.{use_of_key}
use Rattle.liquid_model.specs.UseViews.{members_view}
use Rattle.liquid_model.specs.declared.uses.Use as code

-- each member once, and none that finds an item or a length of a list or a map
abbrev mutual
  pub is_plain_use : Use → Bool
  is_plain_use nothing = true
  is_plain_use everything = true
  is_plain_use (parts members turns) = plain_fields members && plain_turns turns

  pub plain_fields : Fields → Bool
  plain_fields no_fields = true
  plain_fields (field k u more) = not (same_text k (codes "size") || is_place k) &&
      (not (asks_whether (use_of_key k more)) && (is_plain_use u && plain_fields more))

  pub plain_turns : ItemUse → Bool
  plain_turns uncounted = true
  plain_turns (up_to n u) = is_plain_use u

-- uses of names, where there are some
abbrev pub are_plain_if_some : Option (BTreeMap (String Global) code.Use) → Bool
are_plain_if_some None = true
are_plain_if_some (Some uses) = plain_fields (members_view uses.entries)
