-- Jekyll's filters, which the library answers itself.
use Rattle.std.specs.Prelude.{◌≡◌, ℕ, List, Option, Some}
use Rattle.std.specs.Str.{IsUtf8}
use Rattle.liquid_model.specs.ErrorKinds.{number_of}
use Rattle.liquid_model.specs.Maps.{listed}
use Rattle.liquid_model.specs.Texts.{Text}
use Rattle.liquid_model.specs.declared.error.ErrorKind.TheVariants.{Memory}
use Rattle.liquid_language.specs.Registered.{registered_in}
use Rattle.liquid_language.specs.declared.registry.Language.{Language}
use Rattle.liquid_filter_sets.specs.Languages.{with_jekyll_filters}
use Rattle.liquid_answers.specs.Tables.{site_of}
use Rattle.liquid_answers.specs.declared.answers.Answers.{Answers}
use Rattle.liquid_c.specs.Languages.{HoldsLanguage}
use Rattle.liquid_c.specs.Numbers.{number_of_refusal}
use Rattle.liquid_c.specs.Tables.{ChangesTable, HasSameAnswers, HoldsTable, IsSameTable}
use Rattle.liquid_c.specs.declared.content.Content.TheVariants as content
use Rattle.liquid_c.specs.declared.handle_content.HandleContent.{HandleContent}
use Rattle.liquid_c.specs.declared.handle_content.HandleContent.TheVariants.{Own, Shared}
use Rattle.liquid_c.specs.declared.refusal.Refusal.TheVariants.{SharedHandle, NoText, OtherHandle}

-- ---- their names in a language

-- all but the filters is as it was
abbrev pub IsSameButFilters : Language → Language → Type 0
IsSameButFilters old new = (new.tags ≡ old.tags) × (new.blocks ≡ old.blocks)
    × (new.host_tags ≡ old.host_tags) × (new.include_paths ≡ old.include_paths)
    × (new.drops_blanks ≡ old.drops_blanks) × (new.escapes_html ≡ old.escapes_html)

-- the new language has each of them at its name, and `where_exp`, and is else the old one
abbrev pub HasNames : Language → Language → Type 0
HasNames old new = IsSameButFilters old new × (listed (registered_in new.filters) ≡
    with_jekyll_filters (listed (registered_in old.filters)))

-- they stand in the language;  or memory ran out, and nothing but the filters changed
pub data RegistersJekylls (old : Language) (number : ℕ) (left : Option HandleContent) : Type 0 where
  done : number ≡ 0 → HoldsLanguage (HasNames old) left → RegistersJekylls old number left
  refused : number ≡ number_of Memory → HoldsLanguage (IsSameButFilters old) left →
      RegistersJekylls old number left

abbrev pub IsJekyllRegistration : Option HandleContent → ℕ → Option HandleContent → Type 0
IsJekyllRegistration (Some (Own (content.Language l))) number left = RegistersJekylls l number left
IsJekyllRegistration (Some (Shared c)) number left =
    (number ≡ number_of_refusal SharedHandle) × (left ≡ Some (Shared c))
IsJekyllRegistration old number left = (number ≡ number_of_refusal OtherHandle) × (left ≡ old)

-- ---- the site of a table

-- the new table has the site, and is else the old one
abbrev pub HasSite : Text → Text → Answers → Answers → Type 0
HasSite address base old new = (site_of new ≡ Some (address, base)) × HasSameAnswers old new
    × (new.shop ≡ old.shop) × (new.has_decimals ≡ old.has_decimals)

-- the site stands in the table, or memory ran out;  or one of the two is no text
pub data PutsSite (address base : List ℕ) (old : Answers) (number : ℕ)
    (left : Option HandleContent) : Type 0 where
  placed : IsUtf8 address → IsUtf8 base → ChangesTable (HasSite address base) old number left →
      PutsSite address base old number left
  no_address : (IsUtf8 address → ⊥) → number ≡ number_of_refusal NoText →
      HoldsTable (IsSameTable old) left → PutsSite address base old number left
  no_base : (IsUtf8 base → ⊥) → number ≡ number_of_refusal NoText →
      HoldsTable (IsSameTable old) left → PutsSite address base old number left

abbrev pub IsPlacing : Option HandleContent → List ℕ → List ℕ → ℕ → Option HandleContent → Type 0
IsPlacing (Some (Own (content.Answers table))) address base number left =
    PutsSite address base table number left
IsPlacing (Some (Shared c)) address base number left =
    (number ≡ number_of_refusal SharedHandle) × (left ≡ Some (Shared c))
IsPlacing old address base number left = (number ≡ number_of_refusal OtherHandle) × (left ≡ old)
