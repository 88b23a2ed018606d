-- A language of the caller's that escapes.
use Rattle.std.specs.Prelude.{◌≡◌, ℕ, Option, Some, true}
use Rattle.liquid_language.specs.declared.registry.Language.{Language}
use Rattle.liquid_c.specs.Numbers.{number_of_refusal}
use Rattle.liquid_c.specs.declared.content.Content.TheVariants as content
use Rattle.liquid_c.specs.declared.handle_content.HandleContent.{HandleContent}
use Rattle.liquid_c.specs.declared.handle_content.HandleContent.TheVariants.{Own, Shared}
use Rattle.liquid_c.specs.declared.refusal.Refusal.TheVariants.{SharedHandle, OtherHandle}

-- the language, but that it escapes
abbrev pub made_escaping : Language → Language
made_escaping l = record l { escapes_html = true }

-- a language escapes from now on; nothing else changes, nor a handle that holds no language alone
abbrev pub IsEscaping : Option HandleContent → ℕ → Option HandleContent → Type 0
IsEscaping (Some (Own (content.Language l))) number left =
    (number ≡ 0) × (left ≡ Some (Own (content.Language (made_escaping l))))
IsEscaping (Some (Shared c)) number left =
    (number ≡ number_of_refusal SharedHandle) × (left ≡ Some (Shared c))
IsEscaping old number left = (number ≡ number_of_refusal OtherHandle) × (left ≡ old)
