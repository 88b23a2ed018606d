-- Which names a host may register.
use Rattle.std.specs.Prelude.{◌≡◌, ◌==◌, ◌||◌, Bool, false, cond, [], ◌∷◌, length, bytes_eq, codes}
use Rattle.std.specs.Prelude.{Option, Some, None, Result, Ok, Err}
use Rattle.liquid_model.specs.Front.{word_at}
use Rattle.liquid_model.specs.Maps.{listed}
use Rattle.liquid_model.specs.Texts.{Text}
use Rattle.liquid_language.specs.Languages.{kinds_of}
use Rattle.liquid_language.specs.declared.host_names.NameRefusal.{NameRefusal}
use Rattle.liquid_language.specs.declared.host_names.NameRefusal.TheVariants.{NotAWord, Reserved}
use Rattle.liquid_language.specs.declared.host_names.NameRefusal.TheVariants.{Taken}
use Rattle.liquid_language.specs.declared.host_names.TagError.{TagError}
use Rattle.liquid_language.specs.declared.host_names.TagError.TheVariants.{Memory, Refused}
use Rattle.liquid_language.specs.declared.registry.Language.{Language}

abbrev pub has_no_rest : Option (Text × Text) → Bool
has_no_rest None = false
has_no_rest (Some cut) = length cut.1 == 0

-- a letter or `_`, then letters, digits, `_` and `-`
abbrev pub is_tag_name : Text → Bool
is_tag_name w = has_no_rest (word_at w)

-- `end`, and more or nothing
abbrev pub begins_as_end : Text → Bool
begins_as_end (a ∷ b ∷ c ∷ bs) = bytes_eq (a ∷ b ∷ c ∷ []) (codes "end")
begins_as_end _ = false

-- what begins with `end`, and the words between the bodies of blocks
abbrev pub is_reserved : Text → Bool
is_reserved w =
    begins_as_end w || (bytes_eq w (codes "else") ||
    (bytes_eq w (codes "elsif") || bytes_eq w (codes "when")))

abbrev pub taken_by : {X Y : Type 0} → Option X → Option Y → Option NameRefusal
taken_by None None = None
taken_by None (Some kind) = Some Taken
taken_by (Some kind) o = Some Taken

-- why a host can't register a tag or a block under a name, if it can't
abbrev pub name_refusal : Language → Text → Option NameRefusal
name_refusal l w =
    cond (is_tag_name w)
    (cond (is_reserved w) (Some Reserved)
    (taken_by (listed (kinds_of l.tags) w) (listed (kinds_of l.blocks) w)))
    (Some NotAWord)

-- a name is refused for that reason alone, and only memory can be missing for another
abbrev pub RefusesName : Option NameRefusal → Result (Unit {0}) TagError → Type 0
RefusesName why (Ok _) = why ≡ None
RefusesName why (Err Memory) = why ≡ None
RefusesName why (Err (Refused reason)) = why ≡ Some reason
