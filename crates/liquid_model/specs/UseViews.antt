-- The uses that the types `Use` and `Uses` stand for.
--     use_view u      the use;   members_view es      the uses of names as fields;   uses_view m
--                     as a function of the name
use Rattle.std.specs.Prelude.{List, [], ◌∷◌, map, Option, Some, None, String, string_bytes}
use Rattle.std.specs.declared.alloc.Global.{Global}
use Rattle.std.specs.BTreeMap.{BTreeMap}
use Rattle.liquid_model.specs.Texts.{Text}
use Rattle.liquid_model.specs.Uses as seen
use Rattle.liquid_model.specs.Uses.{Fields, no_fields, field, uncounted, up_to, use_in}
use Rattle.liquid_model.specs.declared.uses.Use.{Use, fold-Use}
use Rattle.liquid_model.specs.declared.uses.Use.TheOpen.{Use-F, ItemUse-F}
use Rattle.liquid_model.specs.declared.uses.ItemUse.{ItemUse}

abbrev pub fields_of : List (String Global × seen.Use) → Fields
fields_of [] = no_fields
fields_of (m ∷ ms) = field (string_bytes m.0) m.1 (fields_of ms)

abbrev pub turns_of : Option seen.ItemUse → seen.ItemUse
turns_of None = uncounted
turns_of (Some turns) = turns

-- one level, with each use inside already seen
abbrev pub use_step : Use-F seen.Use seen.ItemUse → seen.Use
use_step Use-F.Nothing = seen.nothing
use_step Use-F.Everything = seen.everything
use_step (Use-F.Parts members items) = seen.parts (fields_of members.entries) (turns_of items)

abbrev pub items_step : ItemUse-F seen.Use seen.ItemUse → seen.ItemUse
items_step w = up_to w.limit w.each.value

abbrev pub use_view : Use → seen.Use
use_view = fold-Use seen.Use seen.ItemUse use_step items_step

abbrev pub members_view : List (String Global × Use) → Fields
members_view ms = fields_of (map (λ m. (m.0, use_view m.1)) ms)

abbrev pub turns_view : Option ItemUse → seen.ItemUse
turns_view None = uncounted
turns_view (Some i) = up_to i.limit (use_view i.each.value)

-- what is asked of each name
abbrev pub uses_view : BTreeMap (String Global) Use → Text → seen.Use
uses_view m name = use_in name (members_view m.entries)
