-- What is asked of the value that an expression leads to, and what that grants.
--     gives r v      the place asks all that v asks
--     IsReached r U x      whatever the place gives, the expression is granted under U
use Rattle.std.specs.Prelude.{◌≡◌, Bool, true, false, cond, ◌&&◌, Option, Some, None}
use Rattle.std.specs.Borrow.{Bor}
use Rattle.liquid_core.specs.Expression.{Expression, Steps, step}
use Rattle.liquid_model.specs.declared.uses.Use.{Use as RustUse}
use Rattle.liquid_model.specs.Uses.{Use, nothing, everything, includes}
use Rattle.liquid_model.specs.UseViews.{use_view}
use Rattle.liquid_meaning.specs.Reading.{Uses, grants, grants_along}
use Rattle.liquid_uses.specs.declared.places.Place.{Place}
use Rattle.liquid_uses.specs.declared.places.Place.TheVariants.{Whole, Asked, Unnamed, Refused}

abbrev pub gives : Place → Use → Bool
gives Whole v = includes everything v
gives (Asked u) v = includes (use_view u.now) v
gives Unnamed v = includes nothing v
gives Refused v = false

abbrev pub gives_along : Uses → Place → Steps → Use → Bool
gives_along U Whole steps v = grants_along U everything steps v
gives_along U (Asked u) steps v = grants_along U (use_view u.now) steps v
gives_along U Unnamed steps v = grants_along U nothing steps v
gives_along U Refused steps v = false

abbrev pub IsReached : Place → Uses → Expression → Type 0
IsReached r U x = (v : Use) → gives r v ≡ true → grants U x v ≡ true

-- where the second place is granted what comes after the steps, the first is granted it along the
-- steps
abbrev pub IsReachedAlong : Place → Uses → Place → Steps → Type 0
IsReachedAlong r U first steps = (v : Use) → gives r v ≡ true → gives_along U first steps v ≡ true

-- what is found, or nothing
abbrev pub option_use : Option (Bor RustUse) → Use
option_use None = nothing
option_use (Some u) = use_view u.now

-- the second place is where the step leads from the first: what it gives along the further steps,
-- the first gives along all of them
abbrev pub Leads : Uses → Place → Expression → Place → Type 0
Leads U r x next = (more : Steps) (v : Use) → gives_along U next more v ≡ true
    → gives_along U r (step x more) v ≡ true

-- whole, where the test holds and everything is asked of the place; or else refused
abbrev pub whole_if : Place → Bool → Place
whole_if r holds = cond (holds && gives r everything) Whole Refused

-- the place of what is found, if it is
abbrev pub use_place : Option (Bor RustUse) → Place
use_place None = Unnamed
use_place (Some u) = Asked u
