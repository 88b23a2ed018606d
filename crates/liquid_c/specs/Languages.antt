-- Languages that differ from the standard one.
use Rattle.std.specs.Prelude.{◌≡◌, ◌⊎◌, ℕ, List, [], Option, Some, None, Result, Ok, Err, codes}
use Rattle.std.specs.Prelude.{false, true}
use Rattle.std.specs.Str.{IsUtf8}
use Rattle.liquid_model.specs.ErrorKinds.{number_of}
use Rattle.liquid_model.specs.Maps.{insert, listed}
use Rattle.liquid_model.specs.Texts.{Text}
use Rattle.liquid_model.specs.declared.error.ErrorKind.TheVariants.{Memory}
use Rattle.liquid_core.specs.Environment.{bind_each}
use Rattle.liquid_filters.specs.declared.kind.FilterKind.TheVariants.{JekyllSort}
use Rattle.liquid_lexer.specs.declared.style.Style.TheVariants as styles
use Rattle.liquid_language.specs.HostTags.{block_at, end_in, numbers_of}
use Rattle.liquid_language.specs.declared.host_tags.HostKind.TheVariants as kinds
use Rattle.liquid_answers.specs.Own.{highlight_name}
use Rattle.liquid_language.specs.Languages.{kinds_of}
use Rattle.liquid_language.specs.Registered.{registered_in}
use Rattle.liquid_language.specs.declared.registry.Language.{Language}
use Rattle.liquid_language.specs.declared.registry.TagKind.TheVariants.{JekyllInclude}
use Rattle.liquid_language.specs.declared.registered_filter.RegisteredFilter.TheVariants.{Host}
use Rattle.liquid_language.specs.declared.registered_filter.RegisteredFilter.TheVariants.{Kind}
use Rattle.liquid_language.specs.Standard.{standard_tags, standard_blocks, standard_filters}
use Rattle.liquid_language.specs.Standard.{with_filters}
use Rattle.liquid_c.specs.Numbers.{number_of_refusal}
use Rattle.liquid_c.specs.declared.content.Content.{Content}
use Rattle.liquid_c.specs.declared.content.Content.TheVariants as content
use Rattle.liquid_c.specs.declared.handle_content.HandleContent.{HandleContent}
use Rattle.liquid_c.specs.declared.handle_content.HandleContent.TheVariants.{Own, Shared}
use Rattle.liquid_c.specs.declared.refusal.Refusal.{Refusal}
use Rattle.liquid_c.specs.declared.refusal.Refusal.TheVariants.{SharedHandle, NoText, OtherHandle}

-- the one name of the host is that of a block, `highlight`: its markup is one text, and the
-- library's own filter is called with it on the body's text
pub record HasOwnHighlight (l : Language) : Type 0 where
  pub number : ℕ
  pub name : listed (numbers_of l.host_tags) ≡
      insert (listed []) (codes "highlight") (kinds.Block number)
  pub block : block_at l number ≡
      Some (record { filter = highlight_name; style = styles.Text; given = [] })
  pub end : end_in l.host_tags number ≡ codes "endhighlight"

-- the standard language with Jekyll's `include`, which takes a path, `highlight` and `sort`, and
-- without the white space of blocks that write nothing
pub record IsJekylls (l : Language) : Type 0 where
  pub tags : listed (kinds_of l.tags) ≡
      insert (bind_each standard_tags (listed [])) (codes "include") JekyllInclude
  pub blocks : listed (kinds_of l.blocks) ≡ bind_each standard_blocks (listed [])
  pub filters : listed (registered_in l.filters) ≡ insert
      (insert (with_filters (listed []) standard_filters) (codes "sort") (Kind JekyllSort))
      highlight_name (Host 1 1)
  pub include_paths : l.include_paths ≡ true
  pub drops_blanks : l.drops_blanks ≡ true
  pub escapes_html : l.escapes_html ≡ false
  pub highlight : HasOwnHighlight l

-- that language, or memory ran out
abbrev pub MakesJekylls : Result Content Refusal → Type 0
MakesJekylls (Ok (content.Language l)) = IsJekylls l
MakesJekylls (Ok (content.Fault e)) = e.kind ≡ Memory
MakesJekylls _ = ⊥

-- ---- a filter of the caller's

-- the new language has it at the name, with these numbers of arguments, and is else the old one
abbrev pub IsWith : Text → ℕ → ℕ → Language → Language → Type 0
IsWith name least most old new = (new.tags ≡ old.tags) × (new.blocks ≡ old.blocks)
    × (new.host_tags ≡ old.host_tags) × (new.include_paths ≡ old.include_paths)
    × (new.drops_blanks ≡ old.drops_blanks) × (new.escapes_html ≡ old.escapes_html)
    × (listed (registered_in new.filters) ≡
    insert (listed (registered_in old.filters)) name (Host least most))

-- the language is as it was
abbrev pub IsSameLanguage : Language → Language → Type 0
IsSameLanguage old new = (new.tags ≡ old.tags) × (new.blocks ≡ old.blocks)
    × (new.host_tags ≡ old.host_tags) × (new.include_paths ≡ old.include_paths)
    × (new.drops_blanks ≡ old.drops_blanks) × (new.escapes_html ≡ old.escapes_html)
    × (registered_in new.filters ≡ registered_in old.filters)

abbrev pub HoldsLanguage : (Language → Type 0) → Option HandleContent → Type 0
HoldsLanguage P (Some (Own (content.Language l))) = P l
HoldsLanguage P _ = ⊥

-- the filter stands in the language;  memory ran out, and nothing changed;  the name is no text
pub data RegistersFilter (old : Language) (name : List ℕ) (least most number : ℕ)
    (left : Option HandleContent) : Type 0 where
  done : IsUtf8 name → number ≡ 0 → HoldsLanguage (IsWith name least most old) left →
      RegistersFilter old name least most number left
  refused : IsUtf8 name → number ≡ number_of Memory → HoldsLanguage (IsSameLanguage old) left →
      RegistersFilter old name least most number left
  no_text : (IsUtf8 name → ⊥) → number ≡ number_of_refusal NoText →
      HoldsLanguage (IsSameLanguage old) left → RegistersFilter old name least most number left

abbrev pub IsRegistration : Option HandleContent → List ℕ → ℕ → ℕ → ℕ
    → Option HandleContent → Type 0
IsRegistration (Some (Own (content.Language l))) name least most number left =
    RegistersFilter l name least most number left
IsRegistration (Some (Shared c)) name least most number left =
    (number ≡ number_of_refusal SharedHandle) × (left ≡ Some (Shared c))
IsRegistration old name least most number left =
    (number ≡ number_of_refusal OtherHandle) × (left ≡ old)
