-- What handles share.
--     shared_content held      what a handle holds, whether other handles share it or not
--     Regaining R old      R holds of what the handle held, which is its own again where no other
--     handle has it any more;   RegainingBoth R old other      the same of two handles
use Rattle.std.specs.Prelude.{◌≡◌, ◌⊎◌, ℕ, Option, Some, None, option_map}
use Rattle.std.specs.Arc.{arc_value}
use Rattle.liquid_model.specs.ErrorKinds.{number_of}
use Rattle.liquid_model.specs.declared.error.ErrorKind.TheVariants.{Memory}
use Rattle.liquid_c.specs.Numbers.{number_of_refusal}
use Rattle.liquid_c.specs.declared.content.Content.{Content}
use Rattle.liquid_c.specs.declared.handle_content.HandleContent.{HandleContent}
use Rattle.liquid_c.specs.declared.handle_content.HandleContent.TheVariants.{Own, Shared}
use Rattle.liquid_c.specs.declared.refusal.Refusal.TheVariants.{OtherHandle}

abbrev pub content_of : HandleContent → Content
content_of (Own c) = c
content_of (Shared a) = arc_value a

abbrev pub shared_content : Option HandleContent → Option Content
shared_content held = option_map content_of held

-- what a call finds in a handle that it is to change: what was shared is the handle's own
-- again, or is shared still
abbrev pub IsRegained : HandleContent → HandleContent → Type 0
IsRegained (Own c) was = was ≡ Own c
IsRegained (Shared a) was = (was ≡ Own (arc_value a)) ⊎ (was ≡ Shared a)

abbrev pub Regained : Option HandleContent → Option HandleContent → Type 0
Regained None was = was ≡ None
Regained (Some held) None = ⊥
Regained (Some held) (Some was) = IsRegained held was

pub record Regaining (R : Option HandleContent → Type 0) (old : Option HandleContent) : Type 0 where
  pub was : Option HandleContent
  pub regained : Regained old was
  pub is : R was

-- the same of two handles
pub record RegainingBoth (R : Option HandleContent → Option HandleContent → Type 0)
    (old other : Option HandleContent) : Type 0 where
  pub was : Option HandleContent
  pub other_was : Option HandleContent
  pub regained : Regained old was
  pub other_regained : Regained other other_was
  pub is : R was other_was

-- it shares this content
abbrev pub HoldsShared : Content → Option HandleContent → Type 0
HoldsShared c (Some (Shared a)) = arc_value a ≡ c
HoldsShared c _ = ⊥

-- both handles share the content;  or memory ran out: the one holds it still, and the other nothing
pub data Shares (c : Content) (number : ℕ) (held made : Option HandleContent) : Type 0 where
  done : number ≡ 0 → HoldsShared c held → HoldsShared c made → Shares c number held made
  refused : number ≡ number_of Memory → shared_content held ≡ Some c → made ≡ None →
      Shares c number held made

-- what is made of an owner's content in this way
abbrev pub HandsOut : Content → ℕ → Option HandleContent → Type 0
HandsOut c number made = ((number ≡ 0) × HoldsShared c made)
    ⊎ ((number ≡ number_of Memory) × (made ≡ None))

-- a handle that holds nothing has nothing to share
abbrev pub IsSharing : Option Content → ℕ → Option HandleContent → Option HandleContent → Type 0
IsSharing (Some c) number held made = Shares c number held made
IsSharing None number held made =
    (number ≡ number_of_refusal OtherHandle) × (held ≡ None) × (made ≡ None)
