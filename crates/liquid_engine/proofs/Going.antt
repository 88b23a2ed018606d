-- A run of a range on its way: what is left of the range does from here what the whole did from the start.
use Rattle.std.proofs.Common.{◌≡◌, ℕ, ◌+◌, ◌<◌, ◌≤◌, List, [], ◌∷◌, length, get_or, Some, None, Result, Ok, Err, refl, sym, ap, ◌∙◌, subst, arith}
use Rattle.std.specs.Prelude.{slice_get}
use Rattle.std.proofs.lemmas.List.{length-map}
use Rattle.std.proofs.lemmas.Option.{slice_get_read, slice_get-map, slice_get_within}
use Rattle.std.specs.Option.{option_map}
use Rattle.liquid_model.specs.Texts.{Text}
use Rattle.liquid_core.specs.Environment.{Environment, Names}
use Rattle.liquid_model.specs.declared.error.Error.{Error}
use Rattle.liquid_core.specs.declared.interrupt.Interrupt.{Interrupt}
use Rattle.liquid_core.specs.declared.state.State.{State}
use Rattle.liquid_evaluation.specs.Tree as tree
use Rattle.liquid_evaluation.specs.Names.{node_names, nodes_names}
use Rattle.liquid_syntax.specs.Forest.{Forest, Bodies, empty, node}
use Rattle.liquid_syntax.specs.Laid.{Flat, StandBodies, last_end}
use Rattle.liquid_syntax.specs.Flats.{Maker, leaf, with_one, with_two, flat_of, flats, nodes_of, bodies_of, IsForestAt, IsNodeRange, NodeAt, IsNode}
use Rattle.liquid_syntax.specs.declared.node.Node.{Node}
use Rattle.liquid_syntax.proofs.Places.{Stands-le, StandBodies-le, one_body, two_bodies, nothing_left}
use Rattle.liquid_meaning.specs.Within.{Within}
use Rattle.liquid_core.specs.States.{layers_of}
use Rattle.liquid_engine.specs.StateKept.{Keeps, IsRenderNode, AreRenderNodes}
use Rattle.liquid_engine.specs.Performs.{Configuration, Performs}
use Rattle.liquid_engine.specs.Sinks.{Sink}
use Rattle.liquid_engine.specs.inside.Engine.{node_meant, nodes_meant}
use Rattle.liquid_meaning.specs.Meaning.{Setting, deeper_meaning}
use Rattle.liquid_meaning.proofs.Within.{left, right}
use Rattle.liquid_engine.proofs.Joined.{list_on, list_halt, list_fault, list_end}
use Rattle.liquid_engine.proofs.Turns.{done_unfailed}

-- ---- the node at a place

at_node : (ns : List Node) (at : ℕ) (r n : Node) → at < length ns → r ≡ get_or ns at r → r ≡ n → slice_get (flats ns) at ≡ Some (flat_of n)
at_node ns at r n lt is same =
    slice_get-map flat_of ns at ∙ ap (option_map flat_of) (slice_get_read ns (length ns) at r refl lt is ∙ ap Some same)

same_some : (x y : Flat Maker) → Some x ≡ Some y → x ≡ y
same_some x y e = cc

-- a node that is known, as the tree has it
abbrev pub Known : List Node → ℕ → tree.Node → ℕ → Flat Maker → Type 0
Known ns at n next y = (bs : Bodies Maker) × StandBodies (flats ns) (at + 1) y.ends bs × (n ≡ y.head (bodies_of bs)) × (next ≡ last_end (at + 1) y.ends)

pub known : (ns : List Node) (at : ℕ) (r m : Node) (n : tree.Node) (next : ℕ) → NodeAt ns at n next → at < length ns → r ≡ get_or ns at r → r ≡ m → Known ns at n next (flat_of m)
known ns at r m n next (x, bs, is, inner, made, ends) lt read same =
    subst (Known ns at n next) (same_some x (flat_of m) (sym is ∙ at_node ns at r m lt read same)) (bs, inner, made, ends)

pub known_one : (ns : List Node) (at e : ℕ) (n : tree.Node) (next : ℕ) (make : tree.Nodes → tree.Node) → Known ns at n next (record { head = with_one make; ends = e ∷ [] })
    → (b : Forest Maker) × (n ≡ make (nodes_of b)) × IsForestAt ns (at + 1) b e × (next ≡ e)
known_one ns at e n next make (bs, inner, made, ends) =
    let (b, is, here) = one_body (flats ns) (at + 1) e bs inner in
    (b, made ∙ ap (λ x. with_one make (bodies_of x)) is, here, ends)

pub known_two : (ns : List Node) (at t e : ℕ) (n : tree.Node) (next : ℕ) (make : tree.Nodes → tree.Nodes → tree.Node) → Known ns at n next (record { head = with_two make; ends = t ∷ e ∷ [] })
    → (b d : Forest Maker) × (n ≡ make (nodes_of b) (nodes_of d)) × IsForestAt ns (at + 1) b t × IsForestAt ns t d e × (next ≡ e)
known_two ns at t e n next make (bs, inner, made, ends) =
    let (b, d, is, here, there) = two_bodies (flats ns) (at + 1) t e bs inner in
    (b, d, made ∙ ap (λ x. with_two make (bodies_of x)) is, here, there, ends)

pub node_within : (ns : List Node) (at to : ℕ) → IsNode ns at to → at < length ns
node_within ns at to (n, next, (x, bs, is, inner, made, ends), le) = subst (λ k. at < k) (length-map ns flat_of) (slice_get_within (flats ns) at x is)

-- ---- what is left of a range

abbrev pub Going : Setting → ℕ → List Node → ℕ → ℕ → ℕ → Configuration → Configuration → Type 0
Going setting depth ns from at to start here = (f : Forest Maker) → IsForestAt ns from f to → (rest : Forest Maker) × IsForestAt ns at rest to
    × ((N : Names) → Within N (nodes_names (nodes_of f)) → Within N (nodes_names (nodes_of rest)))
    × (AreRenderNodes (nodes_of f) → AreRenderNodes (nodes_of rest))
    × ((r : Result (Unit {0}) Error) (after : Configuration) → Performs r (nodes_meant setting depth (nodes_of rest)) here after → Performs r (nodes_meant setting depth (nodes_of f)) start after)

-- what a range begins with
abbrev pub First : List Node → ℕ → Forest Maker → ℕ → Type 0
First ns at f to = (n : tree.Node) × (next : ℕ) × (rest : Forest Maker) × NodeAt ns at n next × (nodes_of f ≡ tree.node n (nodes_of rest)) × IsForestAt ns next rest to × (next ≤ to) × (at < next)

pub first : (ns : List Node) (at : ℕ) (f : Forest Maker) (to : ℕ) → IsForestAt ns at f to → at < to → First ns at f to
first ns at empty to s lt = absurd (omega arith)
first ns at (node h bs rest) to (x, is, eq, inner, after) lt =
    (h (bodies_of bs), last_end (at + 1) x.ends, rest, (x, bs, is, inner, ap (λ k. k (bodies_of bs)) (sym eq), refl), refl, after, Stands-le (flats ns) _ rest to after, (let le = StandBodies-le (flats ns) (at + 1) x.ends bs inner in omega arith))

-- the next node is whole
pub going_node : (setting : Setting) (depth : ℕ) (ns : List Node) (from at to : ℕ) (start here : Configuration) → IsNodeRange ns from to → Going setting depth ns from at to start here → at < to → IsNode ns at to
going_node setting depth ns from at to start here (f, s) going lt =
    let (rest, stands, names, renders, gives) = going f s in
    let (n, next, more, there, is, after, le, past) = first ns at rest to stands lt in
    (n, next, there, le)

abbrev pub NodePerforms : Setting → ℕ → List Node → ℕ → Result (Unit {0}) Error → Configuration → Configuration → Type 0
NodePerforms setting depth ns at r here after = (n : tree.Node) (next : ℕ) → NodeAt ns at n next → Performs r (node_meant setting depth n) here after

-- the same from where the node's turns were asked
pub node_from : (setting : Setting) (depth : ℕ) (ns : List Node) (at : ℕ) (r : Result (Unit {0}) Error) (s u : Sink) (e : Environment) (after : Configuration) → u ≡ s → NodePerforms setting depth ns at r (record { sink = u; environment = e }) after
    → NodePerforms setting depth ns at r (record { sink = s; environment = e }) after
node_from setting depth ns at r s u e after same h n next there = subst (λ z. Performs r (node_meant setting depth n) (record { sink = z; environment = e }) after) same (h n next there)

-- no write failed in a node that was done
pub node_unfailed : (setting : Setting) (depth : ℕ) (ns : List Node) (at to : ℕ) (value : Unit {0}) (here after : Configuration) → IsNode ns at to → NodePerforms setting depth ns at (Ok value) here after → after.sink.failures ≡ here.sink.failures
node_unfailed setting depth ns at to value here after (n, next, there, le) h = done_unfailed value (node_meant setting depth n) here after (h n next there)

abbrev pub NodeKeeps : Setting → List Node → ℕ → State → State → Type 0
NodeKeeps setting ns at old new = (n : tree.Node) (next : ℕ) → NodeAt ns at n next → Keeps (node_names n) setting old new

names_first : (N : Names) (n : tree.Node) (more all : tree.Nodes) → all ≡ tree.node n more → Within N (nodes_names all) → Within N (node_names n)
unfolding nodes_names
names_first N n more all is h = left N (node_names n) (nodes_names more) (subst (λ x. Within N (nodes_names x)) is h)

names_rest : (N : Names) (n : tree.Node) (more all : tree.Nodes) → all ≡ tree.node n more → Within N (nodes_names all) → Within N (nodes_names more)
unfolding nodes_names
names_rest N n more all is h = right N (node_names n) (nodes_names more) (subst (λ x. Within N (nodes_names x)) is h)

renders_first : (n : tree.Node) (more all : tree.Nodes) → all ≡ tree.node n more → AreRenderNodes all → IsRenderNode n × AreRenderNodes more
renders_first n more all is h = subst (λ x. AreRenderNodes x) is h

-- one node on
pub going_on : (setting : Setting) (depth : ℕ) (ns : List Node) (from at to at2 : ℕ) (value : Unit {0}) (start here there : Configuration) → Going setting depth ns from at to start here → at < to
    → NodePerforms setting depth ns at (Ok value) here there → there.environment.registers.interrupt ≡ None → ((n : tree.Node) (next : ℕ) → NodeAt ns at n next → at2 ≡ next)
    → Going setting depth ns from at2 to start there
going_on setting depth ns from at to at2 value start here there going lt ran none ends f s =
    let (rest, stands, names, renders, gives) = going f s in
    let (n, next, more, is_there, is, after, le, past) = first ns at rest to stands lt in (
      more,
      subst (λ k. IsForestAt ns k more to) (sym (ends n next is_there)) after,
      (λ N h. names_rest N n (nodes_of more) (nodes_of rest) is (names N h)),
      (λ h. (renders_first n (nodes_of more) (nodes_of rest) is (renders h)).1),
      λ r end h. gives r end (subst (λ x. Performs r (nodes_meant setting depth x) here end) (sym is)
          (list_on setting (deeper_meaning setting depth) value r n (nodes_of more) here there end (ran n next is_there) none h)),
    )

-- the node leaves an interrupt
pub going_halt : (setting : Setting) (depth : ℕ) (ns : List Node) (from at to : ℕ) (value other : Unit {0}) (i : Interrupt) (start here there : Configuration) → Going setting depth ns from at to start here → at < to
    → NodePerforms setting depth ns at (Ok value) here there → there.environment.registers.interrupt ≡ Some i
    → (f : Forest Maker) → IsForestAt ns from f to → Performs (Ok other) (nodes_meant setting depth (nodes_of f)) start there
going_halt setting depth ns from at to value other i start here there going lt ran some f s =
    let (rest, stands, names, renders, gives) = going f s in
    let (n, next, more, is_there, is, after, le, past) = first ns at rest to stands lt in
    gives (Ok other) there (subst (λ x. Performs (Ok other) (nodes_meant setting depth x) here there) (sym is)
    (list_halt setting (deeper_meaning setting depth) value other n (nodes_of more) here there i (ran n next is_there) some))

-- the node ends by an error
pub going_fault : (setting : Setting) (depth : ℕ) (ns : List Node) (from at to : ℕ) (e : Error) (start here there : Configuration) → Going setting depth ns from at to start here → at < to
    → NodePerforms setting depth ns at (Err e) here there
    → (f : Forest Maker) → IsForestAt ns from f to → Performs (Err e) (nodes_meant setting depth (nodes_of f)) start there
going_fault setting depth ns from at to e start here there going lt ran f s =
    let (rest, stands, names, renders, gives) = going f s in
    let (n, next, more, is_there, is, after, le, past) = first ns at rest to stands lt in
    gives (Err e) there (subst (λ x. Performs (Err e) (nodes_meant setting depth x) here there) (sym is)
    (list_fault setting (deeper_meaning setting depth) e n (nodes_of more) here there (ran n next is_there)))

-- nothing is left
pub going_end : (setting : Setting) (depth : ℕ) (ns : List Node) (from at to : ℕ) (value : Unit {0}) (start here : Configuration) → Going setting depth ns from at to start here → to ≤ at
    → (f : Forest Maker) → IsForestAt ns from f to → Performs (Ok value) (nodes_meant setting depth (nodes_of f)) start here
going_end setting depth ns from at to value start here going le f s =
    let (rest, stands, names, renders, gives) = going f s in
    let none = nothing_left (flats ns) at rest to stands le in
    gives (Ok value) here (subst (λ x. Performs (Ok value) (nodes_meant setting depth (nodes_of x)) here here) (sym none)
    (list_end setting (deeper_meaning setting depth) value here))

-- ---- what every answer keeps

pub kept_on : (names : List Text) (setting : Setting) (s t u : State) → Keeps names setting s t → Keeps names setting t u → Keeps names setting s u
kept_on names setting s t u h k N within inside =
    let a = h N within inside in
    let b = k N within inside in
    record { scopes = b.scopes ∙ a.scopes; globals = b.globals ∙ a.globals; assigned = λ q o. b.assigned q o ∙ a.assigned q o; counters = λ q o. b.counters q o ∙ a.counters q o; missing = b.missing ∙ a.missing }

pub kept_step : (setting : Setting) (depth : ℕ) (ns : List Node) (from at to : ℕ) (start here : Configuration) (s t u : State) (f : Forest Maker) → IsForestAt ns from f to → Going setting depth ns from at to start here → at < to
    → NodeKeeps setting ns at t u → Keeps (nodes_names (nodes_of f)) setting s t → Keeps (nodes_names (nodes_of f)) setting s u
kept_step setting depth ns from at to start here s t u f stood going lt keeps before =
    let (rest, stands, names, renders, gives) = going f stood in
    let (n, next, more, is_there, is, after, le, past) = first ns at rest to stands lt in
    kept_on (nodes_names (nodes_of f)) setting s t u before (λ N within inside. keeps n next is_there N (names_first N n (nodes_of more) (nodes_of rest) is (names N within)) inside)

-- ---- what renders leave

abbrev pub NodeAlone : List Node → ℕ → State → State → Type 0
NodeAlone ns at old new = (n : tree.Node) (next : ℕ) → NodeAt ns at n next → IsRenderNode n → layers_of new ≡ layers_of old

pub alone_step : (setting : Setting) (depth : ℕ) (ns : List Node) (from at to : ℕ) (start here : Configuration) (s t u : State) (f : Forest Maker) → IsForestAt ns from f to → Going setting depth ns from at to start here → at < to
    → NodeAlone ns at t u → (AreRenderNodes (nodes_of f) → layers_of t ≡ layers_of s) → AreRenderNodes (nodes_of f) → layers_of u ≡ layers_of s
alone_step setting depth ns from at to start here s t u f stood going lt leaves before all =
    let (rest, stands, names, renders, gives) = going f stood in
    let (n, next, more, is_there, is, after, le, past) = first ns at rest to stands lt in
    leaves n next is_there (renders_first n (nodes_of more) (nodes_of rest) is (renders all)).0 ∙ before all

-- ---- by kind

pub leaf_is : (ns : List Node) (at to : ℕ) (r m : Node) (x : tree.Node) → IsNode ns at to → r ≡ get_or ns at r → r ≡ m → flat_of m ≡ leaf x → (n : tree.Node) (next : ℕ) → NodeAt ns at n next → n ≡ x
leaf_is ns at to r m x req read same form n next there =
    let (bs, inner, made, ends) = known ns at r m n next there (node_within ns at to req) read same in
    made ∙ ap (λ y. y.head (bodies_of bs)) form

pub leaf_next : (ns : List Node) (at to : ℕ) (r m : Node) (x : tree.Node) → IsNode ns at to → r ≡ get_or ns at r → r ≡ m → flat_of m ≡ leaf x → (n : tree.Node) (next : ℕ) → NodeAt ns at n next → at + 1 ≡ next
leaf_next ns at to r m x req read same form n next there =
    let (bs, inner, made, ends) = known ns at r m n next there (node_within ns at to req) read same in
    sym (ends ∙ ap (λ y. last_end (at + 1) y.ends) form)

pub leaf_performs : (setting : Setting) (depth : ℕ) (ns : List Node) (at to : ℕ) (r m : Node) (x : tree.Node) (res : Result (Unit {0}) Error) (a b : Configuration) → IsNode ns at to → r ≡ get_or ns at r → r ≡ m → flat_of m ≡ leaf x
    → Performs res (node_meant setting depth x) a b → NodePerforms setting depth ns at res a b
leaf_performs setting depth ns at to r m x res a b req read same form h n next there =
    subst (λ y. Performs res (node_meant setting depth y) a b) (sym (leaf_is ns at to r m x req read same form n next there)) h

pub leaf_keeps : (setting : Setting) (ns : List Node) (at to : ℕ) (r m : Node) (x : tree.Node) (s t : State) → IsNode ns at to → r ≡ get_or ns at r → r ≡ m → flat_of m ≡ leaf x
    → Keeps (node_names x) setting s t → NodeKeeps setting ns at s t
leaf_keeps setting ns at to r m x s t req read same form h n next there =
    subst (λ y. Keeps (node_names y) setting s t) (sym (leaf_is ns at to r m x req read same form n next there)) h

pub leaf_other : (ns : List Node) (at to : ℕ) (r m : Node) (x : tree.Node) (s t : State) → IsNode ns at to → r ≡ get_or ns at r → r ≡ m → flat_of m ≡ leaf x → (IsRenderNode x → ⊥) → NodeAlone ns at s t
leaf_other ns at to r m x s t req read same form other n next there h =
    absurd (other (subst (λ y. IsRenderNode y) (leaf_is ns at to r m x req read same form n next there) h))

-- the two ranges of a node with two bodies
abbrev pub Two : List Node → ℕ → ℕ → ℕ → ℕ → Type 0
Two ns at t e to = IsNodeRange ns (at + 1) t × IsNodeRange ns t e × (at < t) × (t ≤ e) × (e ≤ to)

pub two : (ns : List Node) (at t e to : ℕ) (r m : Node) (make : tree.Nodes → tree.Nodes → tree.Node) → IsNode ns at to → r ≡ get_or ns at r → r ≡ m → flat_of m ≡ record { head = with_two make; ends = t ∷ e ∷ [] } → Two ns at t e to
two ns at t e to r m make req read same form =
    let (n, next, there, le) = req in
    let (b, d, is, here, after, ends) = known_two ns at t e n next make (subst (Known ns at n next) form (known ns at r m n next there (node_within ns at to req) read same)) in
    let first_le = Stands-le (flats ns) (at + 1) b t here in
    let then_le = Stands-le (flats ns) t d e after in
    ((b, here), (d, after), (omega arith), then_le, (let x : e ≤ to = omega arith in x))

pub two_performs : (setting : Setting) (depth : ℕ) (ns : List Node) (at t e to : ℕ) (r m : Node) (make : tree.Nodes → tree.Nodes → tree.Node) (res : Result (Unit {0}) Error) (a z : Configuration) → IsNode ns at to → r ≡ get_or ns at r → r ≡ m → flat_of m ≡ record { head = with_two make; ends = t ∷ e ∷ [] }
    → ((b d : Forest Maker) → IsForestAt ns (at + 1) b t → IsForestAt ns t d e → Performs res (node_meant setting depth (make (nodes_of b) (nodes_of d))) a z) → NodePerforms setting depth ns at res a z
two_performs setting depth ns at t e to r m make res a z req read same form h n next there =
    let (b, d, is, here, after, ends) = known_two ns at t e n next make (subst (Known ns at n next) form (known ns at r m n next there (node_within ns at to req) read same)) in
    subst (λ y. Performs res (node_meant setting depth y) a z) (sym is) (h b d here after)

pub two_keeps : (setting : Setting) (ns : List Node) (at t e to : ℕ) (r m : Node) (make : tree.Nodes → tree.Nodes → tree.Node) (s u : State) → IsNode ns at to → r ≡ get_or ns at r → r ≡ m → flat_of m ≡ record { head = with_two make; ends = t ∷ e ∷ [] }
    → ((b d : Forest Maker) → IsForestAt ns (at + 1) b t → IsForestAt ns t d e → Keeps (node_names (make (nodes_of b) (nodes_of d))) setting s u) → NodeKeeps setting ns at s u
two_keeps setting ns at t e to r m make s u req read same form h n next there =
    let (b, d, is, here, after, ends) = known_two ns at t e n next make (subst (Known ns at n next) form (known ns at r m n next there (node_within ns at to req) read same)) in
    subst (λ y. Keeps (node_names y) setting s u) (sym is) (h b d here after)

pub two_other : (ns : List Node) (at t e to : ℕ) (r m : Node) (make : tree.Nodes → tree.Nodes → tree.Node) (s u : State) → IsNode ns at to → r ≡ get_or ns at r → r ≡ m → flat_of m ≡ record { head = with_two make; ends = t ∷ e ∷ [] }
    → ((b d : tree.Nodes) → IsRenderNode (make b d) → ⊥) → NodeAlone ns at s u
two_other ns at t e to r m make s u req read same form other n next there h =
    let (b, d, is, here, after, ends) = known_two ns at t e n next make (subst (Known ns at n next) form (known ns at r m n next there (node_within ns at to req) read same)) in
    absurd (other (nodes_of b) (nodes_of d) (subst (λ y. IsRenderNode y) is h))

pub going_past : (setting : Setting) (depth : ℕ) (ns : List Node) (from at to at2 : ℕ) (start here : Configuration) → IsNodeRange ns from to → Going setting depth ns from at to start here → at < to → ((n : tree.Node) (next : ℕ) → NodeAt ns at n next → at2 ≡ next) → at < at2
going_past setting depth ns from at to at2 start here (f, s) going lt ends =
    let (rest, stands, names, renders, gives) = going f s in
    let (n, next, more, there, is, after, le, past) = first ns at rest to stands lt in
    subst (λ k. at < k) (sym (ends n next there)) past

-- the range of a node with one body
abbrev pub One : List Node → ℕ → ℕ → ℕ → Type 0
One ns at e to = IsNodeRange ns (at + 1) e × (at < e) × (e ≤ to)

pub one : (ns : List Node) (at e to : ℕ) (r m : Node) (make : tree.Nodes → tree.Node) → IsNode ns at to → r ≡ get_or ns at r → r ≡ m → flat_of m ≡ record { head = with_one make; ends = e ∷ [] } → One ns at e to
one ns at e to r m make req read same form =
    let (n, next, there, le) = req in
    let (b, is, here, ends) = known_one ns at e n next make (subst (Known ns at n next) form (known ns at r m n next there (node_within ns at to req) read same)) in
    let first_le = Stands-le (flats ns) (at + 1) b e here in
    ((b, here), (omega arith), (let x : e ≤ to = omega arith in x))

pub one_performs : (setting : Setting) (depth : ℕ) (ns : List Node) (at e to : ℕ) (r m : Node) (make : tree.Nodes → tree.Node) (res : Result (Unit {0}) Error) (a z : Configuration) → IsNode ns at to → r ≡ get_or ns at r → r ≡ m → flat_of m ≡ record { head = with_one make; ends = e ∷ [] }
    → ((b : Forest Maker) → IsForestAt ns (at + 1) b e → Performs res (node_meant setting depth (make (nodes_of b))) a z) → NodePerforms setting depth ns at res a z
one_performs setting depth ns at e to r m make res a z req read same form h n next there =
    let (b, is, here, ends) = known_one ns at e n next make (subst (Known ns at n next) form (known ns at r m n next there (node_within ns at to req) read same)) in
    subst (λ y. Performs res (node_meant setting depth y) a z) (sym is) (h b here)

pub one_keeps : (setting : Setting) (ns : List Node) (at e to : ℕ) (r m : Node) (make : tree.Nodes → tree.Node) (s u : State) → IsNode ns at to → r ≡ get_or ns at r → r ≡ m → flat_of m ≡ record { head = with_one make; ends = e ∷ [] }
    → ((b : Forest Maker) → IsForestAt ns (at + 1) b e → Keeps (node_names (make (nodes_of b))) setting s u) → NodeKeeps setting ns at s u
one_keeps setting ns at e to r m make s u req read same form h n next there =
    let (b, is, here, ends) = known_one ns at e n next make (subst (Known ns at n next) form (known ns at r m n next there (node_within ns at to req) read same)) in
    subst (λ y. Keeps (node_names y) setting s u) (sym is) (h b here)

pub one_other : (ns : List Node) (at e to : ℕ) (r m : Node) (make : tree.Nodes → tree.Node) (s u : State) → IsNode ns at to → r ≡ get_or ns at r → r ≡ m → flat_of m ≡ record { head = with_one make; ends = e ∷ [] }
    → ((b : tree.Nodes) → IsRenderNode (make b) → ⊥) → NodeAlone ns at s u
one_other ns at e to r m make s u req read same form other n next there h =
    let (b, is, here, ends) = known_one ns at e n next make (subst (Known ns at n next) form (known ns at r m n next there (node_within ns at to req) read same)) in
    absurd (other (nodes_of b) (subst (λ y. IsRenderNode y) is h))

pub node_before : (ns : List Node) (at to : ℕ) → IsNode ns at to → at < to
node_before ns at to (n, next, (x, bs, is, inner, made, ends), le) = let within = StandBodies-le (flats ns) (at + 1) x.ends bs inner in omega arith
