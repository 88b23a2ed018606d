-- What a call leaves in the handle for what it makes, and the number that it answers.
--     ResultStored R number left      some answer of which R holds was stored so
use Rattle.std.specs.Prelude.{◌≡◌, ◌⊎◌, ℕ, Option, Some, None, Result, Ok, Err}
use Rattle.liquid_model.specs.ErrorKinds.{number_of}
use Rattle.liquid_model.specs.declared.error.ErrorKind.TheVariants.{Memory}
use Rattle.liquid_c.specs.Numbers.{number_of_content, number_of_refusal}
use Rattle.liquid_c.specs.declared.content.Content.{Content}
use Rattle.liquid_c.specs.declared.handle_content.HandleContent.{HandleContent}
use Rattle.liquid_c.specs.declared.handle_content.HandleContent.TheVariants.{Own}
use Rattle.liquid_c.specs.declared.refusal.Refusal.{Refusal}

-- the handle holds what was made, with its number. Without room for it, it holds nothing and the
-- number is that of `Memory`
abbrev pub StoresResult : Result Content Refusal → ℕ → Option HandleContent → Type 0
StoresResult (Ok c) number left = ((number ≡ number_of_content c) × (left ≡ Some (Own c))) ⊎
    ((number ≡ number_of Memory) × (left ≡ None))
StoresResult (Err r) number left = (number ≡ number_of_refusal r) × (left ≡ None)

pub record ResultStored (R : Result Content Refusal → Type 0) (number : ℕ)
    (left : Option HandleContent) : Type 0 where
  pub answer : Result Content Refusal
  pub is : R answer
  pub agrees : StoresResult answer number left
