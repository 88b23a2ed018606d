-- Which parts of a value are asked for, and values that are alike in these.
--     Use      of a value: nothing, everything, or some members and maybe the items
--     alike u o p      o and p are alike in what u asks of them;   o and p may be missing
--     use_at key u, use_of_items u      what u asks of a member, and of each item
--     reaches m n      the items up to the limit m are all those up to n;   further m n      the
--                      larger limit
--     includes u v      u asks for all that v asks for;   join u v      all that both ask for
--     items_wanted u      all that is asked of an item of a list of which u is asked
--     IncludedAlike, JoinedAlike      the laws of `includes` and `join`
use Rattle.std.specs.Prelude.{◌≡◌, T, Bool, true, false, cond, ◌&&◌, ◌||◌, is_some, codes, List, []}
use Rattle.std.specs.Prelude.{◌∷◌, Option, Some, None, ℕ, max, nat_le, length, take}
use Rattle.std.specs.Option.{option_and_then}
use Rattle.liquid_model.specs.Texts.{Text, same_text}
use Rattle.liquid_model.specs.Data.{Datum, text, array, object, no_items, no_pairs}
use Rattle.liquid_model.specs.Lists.{list_of, pair_lists}
use Rattle.liquid_model.specs.Find.{step}
use Rattle.liquid_model.specs.Whole.{whole_text}

mutual
  pub data Use : Type 0 where
    -- of a value that nobody asks for, not even whether there is one
    nothing : Use
    everything : Use
    -- whether there is a value, its kind, the value itself where it is a scalar, and these parts
    parts : Fields → ItemUse → Use

  -- what is asked of the members, which one step finds: keys, indexes, `first`, `last` and `size`,
  -- each by its text
  pub data Fields : Type 0 where
    no_fields : Fields
    field : Text → Use → Fields → Fields

  -- what is asked of the items that a loop goes over: nothing at all, or this of each of the first
  -- ones up to a limit; without a limit how many there are, and this of each
  pub data ItemUse : Type 0 where
    uncounted : ItemUse
    up_to : Option ℕ → Use → ItemUse

-- how many there are, and this of each
abbrev pub every : Use → ItemUse
every u = up_to None u

-- whether there is a value, and its kind
abbrev pub there : Use
there = parts no_fields uncounted

-- ---- parts of a value that may be missing

-- a scalar whole, and of a list or a map that it is one
abbrev pub shape : Datum → Datum
shape (array ds) = array no_items
shape (object ps) = object no_pairs
shape d = d

abbrev pub shape_of : Option Datum → Option Datum
shape_of None = None
shape_of (Some d) = Some (shape d)

-- the member that a step of this text finds
abbrev pub member : Text → Option Datum → Option Datum
member key o = option_and_then (λ d. step d (text key)) o

-- the items that a loop goes over
abbrev pub loop_items : Datum → List Datum
loop_items (array ds) = list_of ds
loop_items (object ps) = pair_lists ps
loop_items _ = []

abbrev pub loop_items_of : Option Datum → List Datum
loop_items_of None = []
loop_items_of (Some d) = loop_items d

-- ---- alike

-- two lists of one length, and R holds place by place
abbrev pub Pairwise : {A : Type 0} → (A → A → Type 0) → List A → List A → Type 0
Pairwise R [] [] = Unit {0}
Pairwise R [] (y ∷ ys) = ⊥
Pairwise R (x ∷ xs) [] = ⊥
Pairwise R (x ∷ xs) (y ∷ ys) = R x y × Pairwise R xs ys

-- whether a loop may go over as many items as xs has: more are refused, whatever its window
abbrev pub is_loopable : {A : Type 0} → List A → Bool
is_loopable xs = nat_le (length xs) 9223372036854775807

-- R holds place by place up to a limit, and without one the lists have one length
abbrev pub PairwiseUpTo : {A : Type 0} → Option ℕ → (A → A → Type 0) → List A → List A → Type 0
PairwiseUpTo None R xs ys = Pairwise R xs ys
PairwiseUpTo (Some n) R xs ys = (is_loopable xs ≡ is_loopable ys) ×
    Pairwise R (take n xs) (take n ys)

abbrev mutual
  pub Alike : Use → Option Datum → Option Datum → Type 0
  Alike nothing o p = Unit {0}
  Alike everything o p = o ≡ p
  Alike (parts members turns) o p = (shape_of o ≡ shape_of p) ×
      (AlikeFields members o p × AlikeItems turns o p)

  pub AlikeFields : Fields → Option Datum → Option Datum → Type 0
  AlikeFields no_fields o p = Unit {0}
  AlikeFields (field key u more) o p = Alike u (member key o) (member key p) × AlikeFields more o p

  pub AlikeItems : ItemUse → Option Datum → Option Datum → Type 0
  AlikeItems uncounted o p = Unit {0}
  AlikeItems (up_to n u) o p = PairwiseUpTo n (λ d e. Alike u (Some d) (Some e)) (loop_items_of o)
      (loop_items_of p)

-- ---- what a use asks for

abbrev pub use_in : Text → Fields → Use
use_in key no_fields = nothing
use_in key (field k u more) = cond (same_text k key) u (use_in key more)

-- of a member
abbrev pub use_at : Text → Use → Use
use_at key nothing = nothing
use_at key everything = everything
use_at key (parts members turns) = use_in key members

-- of each item
abbrev pub use_of_each : ItemUse → Use
use_of_each uncounted = nothing
use_of_each (up_to n u) = u

abbrev pub use_of_items : Use → Use
use_of_items nothing = nothing
use_of_items everything = everything
use_of_items (parts members turns) = use_of_each turns

abbrev pub is_everything : Use → Bool
is_everything everything = true
is_everything _ = false

-- whether there is a value is asked
abbrev pub asks_whether : Use → Bool
asks_whether nothing = false
asks_whether _ = true

abbrev pub has_every : ItemUse → Bool
has_every uncounted = false
has_every (up_to n u) = true

-- whether the items up to one limit are all those up to the other
abbrev pub reaches : Option ℕ → Option ℕ → Bool
reaches None n = true
reaches (Some m) None = false
reaches (Some m) (Some n) = nat_le n m

abbrev pub goes_up_to : Option ℕ → ItemUse → Bool
goes_up_to n uncounted = false
goes_up_to n (up_to m u) = reaches m n

-- whether the items up to a limit are asked for
abbrev pub asks_items : Option ℕ → Use → Bool
asks_items n nothing = false
asks_items n everything = true
asks_items n (parts members turns) = goes_up_to n turns

-- u, and whether there is a value
abbrev pub present : Use → Use
present nothing = there
present u = u

abbrev mutual
  pub includes : Use → Use → Bool
  includes u nothing = true
  includes u everything = is_everything u
  includes u (parts members turns) = asks_whether u &&
      (includes_fields u members && includes_items u turns)

  pub includes_fields : Use → Fields → Bool
  includes_fields u no_fields = true
  includes_fields u (field key v more) = includes (use_at key u) v && includes_fields u more

  pub includes_items : Use → ItemUse → Bool
  includes_items u uncounted = true
  includes_items u (up_to n v) = asks_items n u && includes (use_of_items u) v

-- ---- uses together

abbrev pub joined_fields : Fields → Fields → Fields
joined_fields no_fields others = others
joined_fields (field key u more) others = field key u (joined_fields more others)

-- the larger of two limits
abbrev pub further : Option ℕ → Option ℕ → Option ℕ
further None n = None
further (Some m) None = None
further (Some m) (Some n) = Some (max m n)

abbrev mutual
  -- all that u and v ask for
  pub join : Use → Use → Use
  join nothing v = v
  join everything v = everything
  join (parts members turns) nothing = parts members turns
  join (parts members turns) everything = everything
  join (parts members turns) (parts others more) =
      parts (joined_fields members others) (join_turns turns more)

  pub join_turns : ItemUse → ItemUse → ItemUse
  join_turns uncounted more = more
  join_turns (up_to m u) uncounted = up_to m u
  join_turns (up_to m u) (up_to n v) = up_to (further m n) (join u v)

-- whether a step by this text finds one item of a list
abbrev pub is_place : Text → Bool
is_place key = is_some (whole_text key) ||
    (same_text key (codes "first") || same_text key (codes "last"))

-- what is asked of items that are found by their place
abbrev pub of_places : Fields → Use
of_places no_fields = nothing
of_places (field key u more) = cond (is_place key) (join u (of_places more)) (of_places more)

-- all that is asked of an item, where this is asked of a list
abbrev pub items_wanted : Use → Use
items_wanted nothing = nothing
items_wanted everything = everything
items_wanted (parts members turns) = join (use_of_each turns) (of_places members)

-- ---- laws

-- what is alike in a use is alike in each that it includes
abbrev pub IncludedAlike : Type 0
IncludedAlike = (u v : Use) (o p : Option Datum) → T (includes u v) → Alike u o p → Alike v o p

-- what is alike in two uses together is alike in both
abbrev pub JoinedAlike : Type 0
JoinedAlike = (u v : Use) (o p : Option Datum) → Alike (join u v) o p → Alike u o p × Alike v o p
