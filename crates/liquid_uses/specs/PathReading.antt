-- Paths read back.
--     path_fields path      what a path asks of the value of its name
--     AlikeInPath path ps qs      data of these pairs are alike in what it asks
--     PathsAskAll      data that are alike in each path of some uses are alike in the uses
use Rattle.std.specs.Prelude.{◌≡◌, ℕ, true, cond, ◌==◌, ◌++◌, List, [], ◌∷◌}
use Rattle.liquid_model.specs.Data.{Pairs}
use Rattle.liquid_model.specs.Find.{value_at}
use Rattle.liquid_model.specs.Texts.{Text}
use Rattle.liquid_model.specs.Uses.{Use, everything, parts, Fields, no_fields, field, uncounted}
use Rattle.liquid_model.specs.Uses.{Alike, every, there, use_in}
use Rattle.liquid_uses.specs.Paths.{is_word_byte, are_words, paths_in}

abbrev mutual
  -- what is read after these bytes of a name
  pub fields_after : Text → Text → Fields
  fields_after name [] = field name everything no_fields
  fields_after name (b ∷ more) = cond (is_word_byte b) (fields_after (name ++ b ∷ []) more)
      (field name (use_by b more) no_fields)

  -- what is asked of a value after which this byte and then the rest stand: `?` at the end asks
  -- whether it is there, `.` a member and `[]` each item
  pub use_by : ℕ → Text → Use
  use_by b [] = there
  use_by b (c ∷ more) = cond (b == 46) (parts (fields_after (c ∷ []) more) uncounted)
      (parts no_fields (every (use_next more)))

  -- what is asked of a value after which this stands
  pub use_next : Text → Use
  use_next [] = everything
  use_next (b ∷ more) = use_by b more

abbrev pub path_fields : Text → Fields
path_fields [] = no_fields
path_fields (b ∷ more) = fields_after (b ∷ []) more

-- under each name both are alike in what is asked of it
abbrev pub AlikeNamed : Fields → Pairs → Pairs → Type 0
AlikeNamed no_fields ps qs = Unit {0}
AlikeNamed (field name u more) ps qs =
    Alike u (value_at name ps) (value_at name qs) × AlikeNamed more ps qs

abbrev pub AlikeInPath : Text → Pairs → Pairs → Type 0
AlikeInPath path ps qs = AlikeNamed (path_fields path) ps qs

abbrev pub AlikeInPaths : List Text → Pairs → Pairs → Type 0
AlikeInPaths [] ps qs = Unit {0}
AlikeInPaths (path ∷ paths) ps qs = AlikeInPath path ps qs × AlikeInPaths paths ps qs

-- where each name can stand in a path
abbrev pub PathsAskAll : Type 0
PathsAskAll = (members : Fields) (ps qs : Pairs) → are_words members ≡ true
    → AlikeInPaths (paths_in members) ps qs
    → (name : Text) → Alike (use_in name members) (value_at name ps) (value_at name qs)
