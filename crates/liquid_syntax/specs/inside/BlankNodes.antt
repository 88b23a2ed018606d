-- Which texts of a list of nodes stand in blocks that write nothing.
--     quiet f      the nodes of a forest write nothing
--     tidied drop as_elsif f      the same forest, where the texts of blocks that write nothing are
--       empty, and its own too where drop is true. Where as_elsif is true, an `if` that is alone
--       there loses its texts as the block around it does
use Rattle.std.specs.Prelude.{◌≡◌, ℕ, ◌+◌, ◌≤◌, ◌<◌, ◌&&◌, ◌⊎◌, Bool, true, false, List, [], map}
use Rattle.std.specs.Prelude.{Some, slice_get, cond, length, nat_eq, string_bytes}
use Rattle.liquid_evaluation.specs.Tree as tree
use Rattle.liquid_syntax.specs.Blanks.{is_blank_text}
use Rattle.liquid_syntax.specs.Flats.{Maker, flat_of}
use Rattle.liquid_syntax.specs.Forest.{Forest, Bodies, empty, node, no_bodies, body}
use Rattle.liquid_syntax.specs.Laid.{Flat, IsLaidOut, StandBodies}
use Rattle.liquid_syntax.specs.declared.blanks.Sound.{Sound}
use Rattle.liquid_syntax.specs.declared.blanks.Sound.TheVariants.{Loud, Silent, OfBodies}
use Rattle.liquid_syntax.specs.declared.node.Node.{Node}
use Rattle.liquid_syntax.specs.declared.node.Node.TheVariants.{Text as Plain, Output, Assign, Raw}
use Rattle.liquid_syntax.specs.declared.node.Node.TheVariants.{Comment, If, Unless, Capture, Case}
use Rattle.liquid_syntax.specs.declared.node.Node.TheVariants.{For, TableRow, Break, Continue}
use Rattle.liquid_syntax.specs.declared.node.Node.TheVariants.{Increment, Decrement, Cycle}
use Rattle.liquid_syntax.specs.declared.node.Node.TheVariants.{IfChanged, Filtered, Include}
use Rattle.liquid_syntax.specs.declared.node.Node.TheVariants.{JekyllInclude, Render, RenderEach}

abbrev pub text_sound : Bool → Sound
text_sound blank = cond blank Silent Loud

-- one clause for each kind of node
abbrev pub sound_of : Node → Sound
sound_of (Plain t) = text_sound (is_blank_text (string_bytes t))
sound_of (Output chain) = Loud
sound_of (Assign name chain) = Silent
sound_of (Raw t) = text_sound (nat_eq (length (string_bytes t)) 0)
sound_of Comment = Silent
sound_of (If condition bodies) = OfBodies
sound_of (Unless condition bodies) = OfBodies
sound_of (Capture name end) = Silent
sound_of (Case target arms end) = OfBodies
sound_of (For f bodies) = OfBodies
sound_of (TableRow r end) = OfBodies
sound_of Break = Loud
sound_of Continue = Loud
sound_of (Increment name) = Loud
sound_of (Decrement name) = Loud
sound_of (Cycle group values) = Loud
sound_of (IfChanged end) = OfBodies
sound_of (Filtered filters end) = Loud
sound_of (Include name bindings) = Loud
sound_of (JekyllInclude name bindings) = Loud
sound_of (Render name bindings) = Loud
sound_of (RenderEach name each bindings) = Loud

-- the blocks whose own texts go
abbrev pub drops : Node → Bool
drops (If condition bodies) = true
drops (Unless condition bodies) = true
drops (Case target arms end) = true
drops (For f bodies) = true
drops _ = false

-- whether a node writes nothing, by whether its bodies do
abbrev pub is_heard_as : Sound → Bool → Bool
is_heard_as Loud bodies = false
is_heard_as Silent bodies = true
is_heard_as OfBodies bodies = bodies

abbrev mutual
  pub quiet : Forest Node → Bool
  quiet empty = true
  quiet (node n bs rest) = is_heard_as (sound_of n) (quiet_bodies bs) && quiet rest

  pub quiet_bodies : Bodies Node → Bool
  quiet_bodies no_bodies = true
  quiet_bodies (body f bs) = quiet f && quiet_bodies bs

-- a node, where a text is empty if drop is true
abbrev pub cleared : Bool → Node → Maker
cleared drop (Plain t) = λ bodies. tree.plain (cond drop [] (string_bytes t))
cleared drop n = (flat_of n).head

-- an `if`, which alone may have an `elsif`, as an `if` alone in its last body
abbrev pub is_if : Node → Bool
is_if (If condition bodies) = true
is_if _ = false

abbrev pub is_empty : Forest Node → Bool
is_empty empty = true
is_empty (node n bs rest) = false

abbrev pub is_no_bodies : Bodies Node → Bool
is_no_bodies no_bodies = true
is_no_bodies (body f bs) = false

-- whether the texts of a block's bodies go: where as_elsif is true, as those around it
abbrev pub is_silent : Bool → Bool → Node → Bodies Node → Bool
is_silent drop as_elsif n bs = cond as_elsif drop (drops n && quiet_bodies bs)

abbrev mutual
  pub tidied : Bool → Bool → Forest Node → Forest Maker
  tidied drop as_elsif empty = empty
  tidied drop as_elsif (node n bs rest) =
      node (cleared drop n) (tidied_bodies
      (is_silent drop (as_elsif && (is_if n && is_empty rest)) n bs) (is_if n) bs)
      (tidied drop false rest)

  -- the last body may be that of an `elsif` where as_elsif is true
  pub tidied_bodies : Bool → Bool → Bodies Node → Bodies Maker
  tidied_bodies drop as_elsif no_bodies = no_bodies
  tidied_bodies drop as_elsif (body f bs) =
      body (tidied drop (as_elsif && is_no_bodies bs) f) (tidied_bodies drop as_elsif bs)

-- all bodies of a block as one forest, whose last root is an `elsif` where as_elsif is true
abbrev pub tidied_all : Bool → Bool → Forest Node → Forest Maker
tidied_all drop as_elsif empty = empty
tidied_all drop as_elsif (node n bs rest) =
    node (cleared drop n) (tidied_bodies (is_silent drop (as_elsif && is_empty rest) n bs)
    (is_if n) bs) (tidied_all drop as_elsif rest)

-- the last body is an `if` alone
abbrev pub is_lone_if : Forest Node → Bool
is_lone_if empty = false
is_lone_if (node n bs rest) = is_if n && is_empty rest

abbrev pub ends_in_if : Bodies Node → Bool
ends_in_if no_bodies = false
ends_in_if (body f bs) = cond (is_no_bodies bs) (is_lone_if f) (ends_in_if bs)

-- the nodes of a list as they are
abbrev pub own_flat : Node → Flat Node
own_flat n = record { head = n; ends = (flat_of n).ends }

abbrev pub own_flats : List Node → List (Flat Node)
own_flats ns = map own_flat ns

abbrev pub IsOwnRange : List Node → ℕ → ℕ → Type 0
IsOwnRange ns from to = (f : Forest Node) × IsLaidOut (own_flats ns) from f to

-- all bodies of the node at an index stand in the list
abbrev pub BodiesAt : List Node → ℕ → Type 0
BodiesAt ns at =
    (n : Node) × (bs : Bodies Node) × (slice_get ns at ≡ Some n) ×
    StandBodies (own_flats ns) (at + 1) (flat_of n).ends bs

-- a text is empty now, and any other node is as it was
abbrev pub IsCleared : Node → Node → Type 0
IsCleared old new = flat_of new ≡ record { head = cleared true old; ends = (flat_of old).ends }

-- nothing has changed but between two places
abbrev pub AreSameOutside : ℕ → ℕ → List Node → List Node → Type 0
AreSameOutside from to old new =
    (i : ℕ) → (i < from) ⊎ (to ≤ i) → slice_get new i ≡ slice_get old i
