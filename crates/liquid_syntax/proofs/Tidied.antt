-- What stands in a list of nodes, when some of its texts are emptied.
use Rattle.std.proofs.Common.{◌≡◌, ℕ, suc, ◌+◌, ◌<◌, ◌≤◌, Bool, true, false, ◌&&◌, List, [], ◌∷◌, ◌++◌, length, get_or, Some, option_map, refl, sym, ap, ◌∙◌, subst, arith}
use Rattle.std.proofs.lemmas.List.{length-map}
use Rattle.std.proofs.lemmas.Option.{slice_get-map, slice_get_read}
use Rattle.std.specs.Prelude.{slice_get}
use Rattle.liquid_syntax.specs.Flats.{Maker, flat_of}
use Rattle.liquid_syntax.specs.Forest.{Forest, Bodies, empty, node, no_bodies, body, forest_size, sizes}
use Rattle.liquid_syntax.specs.Laid.{Flat, IsLaidOut, StandBodies, last_end}
use Rattle.liquid_syntax.specs.declared.node.Node.{Node}
use Rattle.liquid_syntax.specs.declared.blanks.Sound.TheVariants.{Loud, Silent, OfBodies}
use Rattle.liquid_syntax.specs.inside.BlankNodes.{IsOwnRange, cleared, ends_in_if, is_empty, is_heard_as, is_if, is_lone_if, is_no_bodies, is_silent, own_flat, own_flats, quiet, quiet_bodies, sound_of, tidied, tidied_all, tidied_bodies}
use Rattle.liquid_syntax.proofs.Places.{Stands-le, StandBodies-le, first, first-within}
use Rattle.liquid_syntax.proofs.Round.{append, append-empty, joined}

pub last_of : (k : ℕ) (es : List ℕ) (z : ℕ) → last_end k (es ++ z ∷ []) ≡ z
last_of k [] z = refl
last_of k (e ∷ es) z = last_of e es z

-- ---- forests one after another

append_stands : {A : Type 0} (ns : List (Flat A)) (k : ℕ) (f g : Forest A) (m to : ℕ) → IsLaidOut ns k f m → IsLaidOut ns m g to → IsLaidOut ns k (append f g) to
append_stands ns k empty g m to a b = subst (λ n. IsLaidOut ns n g to) (sym a) b
append_stands ns k (node h bs rest) g m to (x, is, eq, inner, after) b = (x, is, eq, inner, append_stands ns (last_end (k + 1) x.ends) rest g m to after b)

stands_append : {A : Type 0} (ns : List (Flat A)) (k : ℕ) (f g : Forest A) (to : ℕ) → IsLaidOut ns k (append f g) to → (m : ℕ) × IsLaidOut ns k f m × IsLaidOut ns m g to
stands_append ns k empty g to s = (k, refl, s)
stands_append ns k (node h bs rest) g to (x, is, eq, inner, after) =
    let (m, a, b) = stands_append ns (last_end (k + 1) x.ends) rest g to after in
    (m, (x, is, eq, inner, a), b)

pub bodies_stand : {A : Type 0} (ns : List (Flat A)) (k : ℕ) (es : List ℕ) (bs : Bodies A) → StandBodies ns k es bs → IsLaidOut ns k (joined bs) (last_end k es)
bodies_stand ns k es no_bodies s = subst (λ l. k ≡ last_end k l) (sym s) refl
bodies_stand ns k es (body f bs) (e, rest, eq, here, more) =
    subst (λ l. IsLaidOut ns k (append f (joined bs)) (last_end k l)) (sym eq) (append_stands ns k f (joined bs) e (last_end e rest) here (bodies_stand ns e rest bs more))

-- ---- the first node of a range

pub own_within : (ns : List Node) (at : ℕ) (f : Forest Node) (to : ℕ) → IsLaidOut (own_flats ns) at f to → at < to → at < length ns
own_within ns at f to s lt = subst (λ n. at < n) (length-map ns own_flat) (first-within (own_flats ns) at f to s lt)

-- the bodies of a node, and what stands after it
abbrev pub Begins : List Node → ℕ → Forest Node → ℕ → Node → Type 0
Begins ns at f to n =
    (bs : Bodies Node) × (rest : Forest Node) × (f ≡ node n bs rest) × StandBodies (own_flats ns) (at + 1) (flat_of n).ends bs × IsLaidOut (own_flats ns) (last_end (at + 1) (flat_of n).ends) rest to

pub own_first : (ns : List Node) (at : ℕ) (f : Forest Node) (to : ℕ) (n : Node) → slice_get ns at ≡ Some n → at < to → IsLaidOut (own_flats ns) at f to → Begins ns at f to n
own_first ns at f to n is lt s = first (own_flats ns) at f to (own_flat n) s lt (slice_get-map own_flat ns at ∙ ap (option_map own_flat) is)

-- the same, where the list is read at an index
pub own_read : (ns : List Node) (at : ℕ) (f : Forest Node) (to : ℕ) (n : Node) → n ≡ get_or ns at n → at < to → IsLaidOut (own_flats ns) at f to → Begins ns at f to n
own_read ns at f to n is lt s = own_first ns at f to n (slice_get_read ns (length ns) at n refl (own_within ns at f to s lt) is) lt s

-- where its bodies stand, as one forest
pub own_bodies : (ns : List Node) (at : ℕ) (f : Forest Node) (to : ℕ) (n : Node) → Begins ns at f to n → IsOwnRange ns (at + 1) (last_end (at + 1) (flat_of n).ends)
own_bodies ns at f to n (bs, rest, is, inner, after) = (joined bs, bodies_stand (own_flats ns) (at + 1) (flat_of n).ends bs inner)

-- it ends after it begins, and within the range
pub own_ends : (ns : List Node) (at : ℕ) (f : Forest Node) (to : ℕ) (n : Node) → Begins ns at f to n → (at < last_end (at + 1) (flat_of n).ends) × (last_end (at + 1) (flat_of n).ends ≤ to)
own_ends ns at f to n (bs, rest, is, inner, after) = (omega (arith, StandBodies-le (own_flats ns) (at + 1) (flat_of n).ends bs inner), Stands-le (own_flats ns) (last_end (at + 1) (flat_of n).ends) rest to after)

-- what is asked of the nodes that are left, after one of them
pub heard : (ns : List Node) (at : ℕ) (f : Forest Node) (to : ℕ) (n : Node) (goes_on : Bool) → Begins ns at f to n → ((bs : Bodies Node) → StandBodies (own_flats ns) (at + 1) (flat_of n).ends bs → is_heard_as (sound_of n) (quiet_bodies bs) ≡ goes_on)
    → (rest : Forest Node) × IsLaidOut (own_flats ns) (last_end (at + 1) (flat_of n).ends) rest to × (quiet f ≡ (goes_on && quiet rest))
heard ns at f to n goes_on (bs, rest, is, inner, after) said = (rest, after, ap quiet is ∙ ap (λ b. b && quiet rest) (said bs inner))

-- by the three ways in which it is asked
pub heard_loud : (n : Node) → sound_of n ≡ Loud → (b : Bool) → is_heard_as (sound_of n) b ≡ false
heard_loud n is b = ap (λ s. is_heard_as s b) is

pub heard_silent : (n : Node) → sound_of n ≡ Silent → (b : Bool) → is_heard_as (sound_of n) b ≡ true
heard_silent n is b = ap (λ s. is_heard_as s b) is

pub heard_bodies : (n : Node) → sound_of n ≡ OfBodies → (b : Bool) → is_heard_as (sound_of n) b ≡ b
heard_bodies n is b = ap (λ s. is_heard_as s b) is

-- ---- how many nodes there are

mutual
  pub stands_size : {A : Type 0} (ns : List (Flat A)) (k : ℕ) (f : Forest A) (to : ℕ) → IsLaidOut ns k f to → to ≡ k + forest_size f
  stands_size ns k empty to s = omega (arith, s)
  stands_size ns k (node h bs rest) to (x, is, eq, inner, after) =
      omega (arith, stands_size ns (last_end (k + 1) x.ends) rest to after, bodies_size ns (k + 1) x.ends bs inner)

  pub bodies_size : {A : Type 0} (ns : List (Flat A)) (k : ℕ) (es : List ℕ) (bs : Bodies A) → StandBodies ns k es bs → last_end k es ≡ k + sizes bs
  bodies_size ns k es no_bodies s = subst (λ l. last_end k l ≡ k + 0) (sym s) (omega arith)
  bodies_size ns k es (body f bs) (e, rest, eq, here, more) =
      subst (λ l. last_end k l ≡ k + (forest_size f + sizes bs)) (sym eq) (omega (arith, stands_size ns k f e here, bodies_size ns e rest bs more))

mutual
  tidied_size : (drop chained : Bool) (f : Forest Node) → forest_size (tidied drop chained f) ≡ forest_size f
  tidied_size drop chained empty = refl
  tidied_size drop chained (node n bs rest) =
      let silent = is_silent drop (chained && (is_if n && is_empty rest)) n bs in
      ap suc (ap (λ m. m + forest_size (tidied drop false rest)) (tidied_sizes silent (is_if n) bs) ∙ ap (λ m. sizes bs + m) (tidied_size drop false rest))

  tidied_sizes : (drop chained : Bool) (bs : Bodies Node) → sizes (tidied_bodies drop chained bs) ≡ sizes bs
  tidied_sizes drop chained no_bodies = refl
  tidied_sizes drop chained (body f bs) =
      ap (λ m. m + sizes (tidied_bodies drop chained bs)) (tidied_size drop (chained && is_no_bodies bs) f) ∙ ap (λ m. forest_size f + m) (tidied_sizes drop chained bs)

-- ---- lists that agree in a range

abbrev pub Agree : {A : Type 0} → List (Flat A) → List (Flat A) → ℕ → ℕ → Type 0
Agree ns ms from to = (i : ℕ) → from ≤ i → i < to → slice_get ms i ≡ slice_get ns i

mutual
  pub stands_there : {A : Type 0} (ns ms : List (Flat A)) (k : ℕ) (f : Forest A) (to : ℕ) → IsLaidOut ns k f to → Agree ns ms k to → IsLaidOut ms k f to
  stands_there ns ms k empty to s a = s
  stands_there ns ms k (node h bs rest) to (x, is, eq, inner, after) a =
      let inside = StandBodies-le ns (k + 1) x.ends bs inner in
      let outside = Stands-le ns (last_end (k + 1) x.ends) rest to after in (
        x,
        a k (omega arith) (omega (arith, inside, outside)) ∙ is,
        eq,
        bodies_there ns ms (k + 1) x.ends bs inner (λ i le lt. a i (omega (arith, le)) (omega (arith, lt, outside))),
        stands_there ns ms (last_end (k + 1) x.ends) rest to after (λ i le lt. a i (omega (arith, le, inside)) lt),
      )

  pub bodies_there : {A : Type 0} (ns ms : List (Flat A)) (k : ℕ) (es : List ℕ) (bs : Bodies A) → StandBodies ns k es bs → Agree ns ms k (last_end k es) → StandBodies ms k es bs
  bodies_there ns ms k es no_bodies s a = s
  bodies_there ns ms k es (body f bs) (e, rest, eq, here, more) a =
      let a' : Agree ns ms k (last_end e rest) = subst (λ l. Agree ns ms k (last_end k l)) eq a in
      let first = Stands-le ns k f e here in
      let later = StandBodies-le ns e rest bs more in (
        e,
        rest,
        eq,
        stands_there ns ms k f e here (λ i le lt. a' i le (omega (arith, lt, later))),
        bodies_there ns ms e rest bs more (λ i le lt. a' i (omega (arith, le, first)) lt),
      )

-- ---- bodies as one forest

and_grouped : (a b c : Bool) → ((a && b) && c) ≡ (a && (b && c))
and_grouped true b c = refl
and_grouped false b c = refl

quiet_append : (f g : Forest Node) → quiet (append f g) ≡ (quiet f && quiet g)
quiet_append empty g = refl
quiet_append (node n bs rest) g = ap (λ r. is_heard_as (sound_of n) (quiet_bodies bs) && r) (quiet_append rest g) ∙ sym (and_grouped (is_heard_as (sound_of n) (quiet_bodies bs)) (quiet rest) (quiet g))

pub quiet_joined : (bs : Bodies Node) → quiet (joined bs) ≡ quiet_bodies bs
quiet_joined no_bodies = refl
quiet_joined (body f bs) = quiet_append f (joined bs) ∙ ap (λ r. quiet f && r) (quiet_joined bs)

-- no root is an `elsif`
pub all_plain : (drop : Bool) (f : Forest Node) → tidied_all drop false f ≡ tidied drop false f
all_plain drop empty = refl
all_plain drop (node n bs rest) = ap (node (cleared drop n) (tidied_bodies (is_silent drop false n bs) (is_if n) bs)) (all_plain drop rest)

and_true : (b : Bool) → (b && true) ≡ b
and_true true = refl
and_true false = refl

and_false : (b : Bool) → (b && false) ≡ false
and_false true = refl
and_false false = refl

-- the only body of a block that may have an `elsif`
all_alone : (drop chained : Bool) (f : Forest Node) → tidied_all drop (chained && is_lone_if f) f ≡ tidied drop chained f
all_alone drop chained empty = refl
all_alone drop chained (node n bs empty) =
    ap (λ b. node (cleared drop n) (tidied_bodies (is_silent drop b n bs) (is_if n) bs) empty) (and_true (chained && (is_if n && true)))
all_alone drop chained (node n bs (node m cs rest)) =
    let none : (chained && (is_if n && false)) ≡ false = ap (λ b. chained && b) (and_false (is_if n)) ∙ and_false chained in
    let left = node m cs rest in
    ap (λ b. node (cleared drop n) (tidied_bodies (is_silent drop (b && false) n bs) (is_if n) bs) (tidied_all drop b left)) none
    ∙ ap (λ b. node (cleared drop n) (tidied_bodies (is_silent drop b n bs) (is_if n) bs) (tidied_all drop false left)) (sym none)
    ∙ ap (node (cleared drop n) (tidied_bodies (is_silent drop (chained && (is_if n && false)) n bs) (is_if n) bs)) (all_plain drop left)

more_after : (f g : Forest Node) → is_empty g ≡ false → is_empty (append f g) ≡ false
more_after empty g more = more
more_after (node n bs rest) g more = refl

-- the last root is one of the second part, where that has any
all_append : (drop chained : Bool) (f g : Forest Node) → is_empty g ≡ false → tidied_all drop chained (append f g) ≡ append (tidied_all drop false f) (tidied_all drop chained g)
all_append drop chained empty g more = refl
all_append drop chained (node n bs rest) g more =
    let none : (chained && is_empty (append rest g)) ≡ false = ap (λ b. chained && b) (more_after rest g more) ∙ and_false chained in
    ap (λ b. node (cleared drop n) (tidied_bodies (is_silent drop b n bs) (is_if n) bs) (tidied_all drop chained (append rest g))) none
    ∙ ap (node (cleared drop n) (tidied_bodies (is_silent drop false n bs) (is_if n) bs)) (all_append drop chained rest g more)

plain_append : (drop : Bool) (f g : Forest Node) → tidied_all drop false (append f g) ≡ append (tidied_all drop false f) (tidied_all drop false g)
plain_append drop empty g = refl
plain_append drop (node n bs rest) g = ap (node (cleared drop n) (tidied_bodies (is_silent drop false n bs) (is_if n) bs)) (plain_append drop rest g)

lone_if_is_there : (f : Forest Node) → is_lone_if f ≡ true → is_empty f ≡ false
lone_if_is_there empty is = absurd cc
lone_if_is_there (node n bs rest) is = refl

last_is_there : (bs : Bodies Node) → ends_in_if bs ≡ true → is_empty (joined bs) ≡ false
last_is_there no_bodies is = absurd cc
last_is_there (body f no_bodies) is = ap is_empty (append-empty f) ∙ lone_if_is_there f is
last_is_there (body f (body g bs)) is = more_after f (joined (body g bs)) (last_is_there (body g bs) is)

-- bodies one after another
all_parts : (drop chained : Bool) (f : Forest Node) (bs : Bodies Node) (last : Bool) → ends_in_if bs ≡ last → tidied_all drop (chained && last) (append f (joined bs)) ≡ append (tidied_all drop false f) (tidied_all drop (chained && last) (joined bs))
all_parts drop true f bs true is = all_append drop true f (joined bs) (last_is_there bs is)
all_parts drop true f bs false is = plain_append drop f (joined bs)
all_parts drop false f bs last is = plain_append drop f (joined bs)

tidied_joined : (drop chained : Bool) (bs : Bodies Node) → tidied_all drop (chained && ends_in_if bs) (joined bs) ≡ joined (tidied_bodies drop chained bs)
tidied_joined drop chained no_bodies = refl
tidied_joined drop chained (body f no_bodies) =
    ap (tidied_all drop (chained && is_lone_if f)) (append-empty f) ∙ all_alone drop chained f ∙ ap (λ b. tidied drop b f) (sym (and_true chained)) ∙ sym (append-empty (tidied drop (chained && true) f))
tidied_joined drop chained (body f (body g bs)) =
    all_parts drop chained f (body g bs) (ends_in_if (body g bs)) refl
    ∙ ap (λ h. append h (tidied_all drop (chained && ends_in_if (body g bs)) (joined (body g bs)))) (all_plain drop f ∙ ap (λ b. tidied drop b f) (sym (and_false chained)))
    ∙ ap (append (tidied drop (chained && false) f)) (tidied_joined drop chained (body g bs))

-- what stands one after another, by the ends of the bodies that were there
parted : (ns : List (Flat Node)) (ms : List (Flat Maker)) (drop chained : Bool) (k : ℕ) (es : List ℕ) (bs : Bodies Node) (to : ℕ) → StandBodies ns k es bs → IsLaidOut ms k (joined (tidied_bodies drop chained bs)) to → StandBodies ms k es (tidied_bodies drop chained bs)
parted ns ms drop chained k es no_bodies to s t = s
parted ns ms drop chained k es (body f bs) to (e, rest, eq, here, more) t =
    let tidy = tidied drop (chained && is_no_bodies bs) f in
    let (m, first, later) = stands_append ms k tidy (joined (tidied_bodies drop chained bs)) to t in
    let there : m ≡ e = stands_size ms k tidy m first ∙ ap (λ n. k + n) (tidied_size drop (chained && is_no_bodies bs) f) ∙ sym (stands_size ns k f e here) in (
      e,
      rest,
      eq,
      subst (λ n. IsLaidOut ms k tidy n) there first,
      parted ns ms drop chained e rest bs to more (subst (λ n. IsLaidOut ms n (joined (tidied_bodies drop chained bs)) to) there later),
    )

pub bodies_tidied : (ns : List (Flat Node)) (ms : List (Flat Maker)) (drop chained : Bool) (k : ℕ) (es : List ℕ) (bs : Bodies Node) → StandBodies ns k es bs → IsLaidOut ms k (tidied_all drop (chained && ends_in_if bs) (joined bs)) (last_end k es) → StandBodies ms k es (tidied_bodies drop chained bs)
bodies_tidied ns ms drop chained k es bs s t = parted ns ms drop chained k es bs (last_end k es) s (subst (λ f. IsLaidOut ms k f (last_end k es)) (tidied_joined drop chained bs) t)
