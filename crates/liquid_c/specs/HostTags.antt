-- Tags and blocks of the caller's.
use Rattle.std.specs.Prelude.{◌≡◌, ℕ, List, [], ◌∷◌, ◌++◌, Option, Some, None, codes, length}
use Rattle.std.specs.Prelude.{if◌then◌else◌, nat_eq}
use Rattle.std.specs.Str.{IsUtf8}
use Rattle.liquid_model.specs.Data.{nil}
use Rattle.liquid_model.specs.ErrorKinds.{number_of}
use Rattle.liquid_model.specs.Maps.{insert, listed}
use Rattle.liquid_model.specs.Texts.{Text}
use Rattle.liquid_model.specs.declared.error.ErrorKind.TheVariants as kind
use Rattle.liquid_core.specs.Expression.{Expression, literal}
use Rattle.liquid_lexer.specs.declared.style.Style.{Style}
use Rattle.liquid_lexer.specs.declared.style.Style.TheVariants as styles
use Rattle.liquid_language.specs.HostNames.{name_refusal}
use Rattle.liquid_language.specs.HostTags.{blocks_of, calls_of, end_names, numbers_of}
use Rattle.liquid_language.specs.declared.host_names.NameRefusal.{NameRefusal}
use Rattle.liquid_language.specs.declared.host_names.NameRefusal.TheVariants as names
use Rattle.liquid_language.specs.declared.host_tags.HostKind.TheVariants as kinds
use Rattle.liquid_language.specs.declared.registry.Language.{Language}
use Rattle.liquid_c.specs.GivenValues.{given_values}
use Rattle.liquid_c.specs.Languages.{HoldsLanguage}
use Rattle.liquid_c.specs.Numbers.{number_of_refusal}
use Rattle.liquid_c.specs.declared.handle_content.HandleContent.{HandleContent}
use Rattle.liquid_c.specs.declared.handle_content.HandleContent.TheVariants.{Own, Shared}
use Rattle.liquid_c.specs.declared.content.Content.TheVariants as content
use Rattle.liquid_c.specs.declared.refusal.Refusal.{Refusal}
use Rattle.liquid_c.specs.declared.refusal.Refusal.TheVariants.{NoSuchStyle, NoText, NoValues}
use Rattle.liquid_c.specs.declared.refusal.Refusal.TheVariants.{NoWord}
use Rattle.liquid_c.specs.declared.refusal.Refusal.TheVariants.{OtherHandle, ReservedName}
use Rattle.liquid_c.specs.declared.refusal.Refusal.TheVariants.{SharedHandle, TakenName}
use Rattle.liquid_c.specs.declared.tags.TagForm.{TagForm}
use Rattle.liquid_c.specs.declared.tags.TagForm.TheVariants as form

-- how what stands after the name of a tag is read: as items, or a path first, or all as one text
abbrev pub style_numbered : ℕ → Option Style
style_numbered asked = if nat_eq asked 0 then Some styles.Items
    else (if nat_eq asked 1 then Some styles.PathFirst
    else (if nat_eq asked 2 then Some styles.Text else None))

-- why a call can't register a name
abbrev pub refusal_of_name : NameRefusal → Refusal
refusal_of_name names.NotAWord = NoWord
refusal_of_name names.Reserved = ReservedName
refusal_of_name names.Taken = TakenName

-- all but the tags of the host is as it was
abbrev pub HasSameRest : Language → Language → Type 0
HasSameRest old new = (new.tags ≡ old.tags) × (new.blocks ≡ old.blocks)
    × (new.filters ≡ old.filters) × (new.include_paths ≡ old.include_paths)
    × (new.drops_blanks ≡ old.drops_blanks) × (new.escapes_html ≡ old.escapes_html)

-- the language is as it was
abbrev pub HasSameTags : Language → Language → Type 0
HasSameTags old new = HasSameRest old new
    × (numbers_of new.host_tags ≡ numbers_of old.host_tags)
    × (calls_of new.host_tags ≡ calls_of old.host_tags)
    × (blocks_of new.host_tags ≡ blocks_of old.host_tags)
    × (end_names new.host_tags ≡ end_names old.host_tags)

-- the new language has a tag at the name, which is an output of the filter over nil, or a block,
-- whose text goes through the filter and whose end is `end` and the name, each with the given
-- values; and is else the old one
abbrev pub HasTag : TagForm → Text → Text → Style → List Expression → Language → Language → Type 0
HasTag form.Tag name filter style given old new = HasSameRest old new
    × (listed (numbers_of new.host_tags) ≡ insert (listed (numbers_of old.host_tags)) name
    (kinds.Tag (length (calls_of old.host_tags))))
    × (calls_of new.host_tags ≡ calls_of old.host_tags
    ++ record { filter = filter; input = literal nil; style = style; given = given } ∷ [])
    × (blocks_of new.host_tags ≡ blocks_of old.host_tags)
    × (end_names new.host_tags ≡ end_names old.host_tags)
HasTag form.Block name filter style given old new = HasSameRest old new
    × (listed (numbers_of new.host_tags) ≡ insert (listed (numbers_of old.host_tags)) name
    (kinds.Block (length (blocks_of old.host_tags))))
    × (calls_of new.host_tags ≡ calls_of old.host_tags)
    × (blocks_of new.host_tags ≡ blocks_of old.host_tags
    ++ record { filter = filter; style = style; given = given } ∷ [])
    × (end_names new.host_tags ≡ end_names old.host_tags ++ (codes "end" ++ name) ∷ [])

-- the tag stands in the language;  its name is refused;  or memory ran out
pub data AddsTag (what : TagForm) (old : Language) (name filter : Text) (style : Style)
    (given : List Expression) (number : ℕ) (left : Option HandleContent) : Type 0 where
  done : name_refusal old name ≡ None → number ≡ 0 →
      HoldsLanguage (HasTag what name filter style given old) left →
      AddsTag what old name filter style given number left
  refused : (reason : NameRefusal) → name_refusal old name ≡ Some reason →
      number ≡ number_of_refusal (refusal_of_name reason) → HoldsLanguage (HasSameTags old) left →
      AddsTag what old name filter style given number left
  no_memory : number ≡ number_of kind.Memory → HoldsLanguage (HasSameTags old) left →
      AddsTag what old name filter style given number left

-- it is added where the given text is values;  it isn't;  or memory ran out
pub data AddsGiven (what : TagForm) (old : Language) (name filter : Text) (style : Style)
    (given : Text) (number : ℕ) (left : Option HandleContent) : Type 0 where
  values : (xs : List Expression) → given_values given ≡ Some xs →
      AddsTag what old name filter style xs number left →
      AddsGiven what old name filter style given number left
  no_values : given_values given ≡ None → number ≡ number_of_refusal NoValues →
      HoldsLanguage (HasSameTags old) left → AddsGiven what old name filter style given number left
  no_memory : number ≡ number_of kind.Memory → HoldsLanguage (HasSameTags old) left →
      AddsGiven what old name filter style given number left

-- it is added where its style is one and name, filter and given values are texts;  else nothing
-- changed
pub data AsksForTag (what : TagForm) (old : Language) (name filter given : List ℕ)
    (asked number : ℕ) (left : Option HandleContent) : Type 0 where
  added : (style : Style) → style_numbered asked ≡ Some style → IsUtf8 name → IsUtf8 filter →
      IsUtf8 given → AddsGiven what old name filter style given number left →
      AsksForTag what old name filter given asked number left
  no_text : (style : Style) → style_numbered asked ≡ Some style →
      (IsUtf8 name × IsUtf8 filter × IsUtf8 given → ⊥) →
      number ≡ number_of_refusal NoText → HoldsLanguage (HasSameTags old) left →
      AsksForTag what old name filter given asked number left
  no_style : style_numbered asked ≡ None → number ≡ number_of_refusal NoSuchStyle →
      HoldsLanguage (HasSameTags old) left → AsksForTag what old name filter given asked number left

abbrev pub IsTagRegistration : TagForm → Option HandleContent → List ℕ → List ℕ → List ℕ → ℕ → ℕ
    → Option HandleContent → Type 0
IsTagRegistration what (Some (Own (content.Language l))) name filter given asked number left =
    AsksForTag what l name filter given asked number left
IsTagRegistration what (Some (Shared c)) name filter given asked number left =
    (number ≡ number_of_refusal SharedHandle) × (left ≡ Some (Shared c))
IsTagRegistration what old name filter given asked number left =
    (number ≡ number_of_refusal OtherHandle) × (left ≡ old)
