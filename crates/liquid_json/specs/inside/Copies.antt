-- Copies of uses that ask for more, and that a reader can follow token by token.
--     any_by_place members      one of the names finds an item of a list, or a length
--     AsksMore u v      values that are alike in what u asks are alike in what v asks
--     AskMore, ItemsAskMore      the same of fields, name by name, and of items
--     each_plain members      a reader can follow each of these uses
use Rattle.std.specs.Prelude.{◌≡◌, Bool, true, false, ◌&&◌, ◌||◌, codes, Option}
use Rattle.liquid_model.specs.Data.{Datum}
use Rattle.liquid_model.specs.Texts.{Text, same_text}
use Rattle.liquid_model.specs.Uses.{Use, Fields, no_fields, field}
use Rattle.liquid_model.specs.Uses.{ItemUse, uncounted, up_to, Alike, is_place}
use Rattle.liquid_json.specs.PlainUses.{is_plain_use}

abbrev pub finds_by_place : Text → Bool
finds_by_place key = same_text key (codes "size") || is_place key

abbrev pub any_by_place : Fields → Bool
any_by_place no_fields = false
any_by_place (field k u more) = finds_by_place k || any_by_place more

abbrev pub each_plain : Fields → Bool
each_plain no_fields = true
each_plain (field k u more) = is_plain_use u && each_plain more

abbrev pub AsksMore : Use → Use → Type 0
AsksMore u v = (o p : Option Datum) → Alike u o p → Alike v o p

-- the same names in the same order, and of each more
abbrev pub AskMore : Fields → Fields → Type 0
AskMore no_fields no_fields = Unit {0}
AskMore no_fields (field l v others) = ⊥
AskMore (field k u more) no_fields = ⊥
AskMore (field k u more) (field l v others) = (k ≡ l) × (AsksMore u v × AskMore more others)

abbrev pub ItemsAskMore : ItemUse → ItemUse → Type 0
ItemsAskMore turns uncounted = Unit {0}
ItemsAskMore uncounted (up_to n v) = ⊥
ItemsAskMore (up_to m u) (up_to n v) = (m ≡ n) × AsksMore u v
