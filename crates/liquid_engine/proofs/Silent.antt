-- A range of nodes for which a run takes no memory, and which nodes aren't of them.
use Rattle.std.proofs.Common.{◌≡◌, ℕ, ◌<◌, List, [], ◌∷◌, get_or, Result, sym, subst}
use Rattle.std.specs.Prelude.{IsOk}
use Rattle.liquid_model.specs.declared.error.Error.{Error}
use Rattle.liquid_evaluation.specs.Tree as tree
use Rattle.liquid_syntax.specs.Forest.{Forest}
use Rattle.liquid_syntax.specs.Flats.{Maker, leaf, with_one, with_two, flat_of, nodes_of, IsForestAt, NodeAt, IsNode}
use Rattle.liquid_syntax.specs.declared.node.Node.{Node}
use Rattle.liquid_engine.specs.Silent.{IsSilent, AreSilent}
use Rattle.liquid_engine.proofs.Going.{Known, first, known, known_one, known_two, node_within, leaf_is}

-- what is left of a range of such nodes is one too
abbrev pub SilentOn : List Node → ℕ → ℕ → ℕ → Type 0
SilentOn ns from at to = (f : Forest Maker) → IsForestAt ns from f to → AreSilent (nodes_of f) → (rest : Forest Maker) × IsForestAt ns at rest to × AreSilent (nodes_of rest)

abbrev pub NodeDone : List Node → ℕ → Result (Unit {0}) Error → Type 0
NodeDone ns at r = (n : tree.Node) (next : ℕ) → NodeAt ns at n next → IsSilent n → IsOk r

parted : (n : tree.Node) (more all : tree.Nodes) → all ≡ tree.node n more → AreSilent all → IsSilent n × AreSilent more
parted n more all is h = subst (λ x. AreSilent x) is h

pub silent_start : (ns : List Node) (from to : ℕ) → SilentOn ns from from to
silent_start ns from to f stood are = (f, stood, are)

pub silent_done : (ns : List Node) (from at to : ℕ) (r : Result (Unit {0}) Error) (f : Forest Maker) → IsForestAt ns from f to → AreSilent (nodes_of f) → SilentOn ns from at to → at < to → NodeDone ns at r → IsOk r
silent_done ns from at to r f stood are on lt done =
    let (rest, stands, left) = on f stood are in
    let (n, next, more, there, is, after, le, past) = first ns at rest to stands lt in
    done n next there (parted n (nodes_of more) (nodes_of rest) is left).0

pub silent_next : (ns : List Node) (from at to at2 : ℕ) → SilentOn ns from at to → at < to → ((n : tree.Node) (next : ℕ) → NodeAt ns at n next → at2 ≡ next) → SilentOn ns from at2 to
silent_next ns from at to at2 on lt ends f stood are =
    let (rest, stands, left) = on f stood are in
    let (n, next, more, there, is, after, le, past) = first ns at rest to stands lt in
    (more, subst (λ k. IsForestAt ns k more to) (sym (ends n next there)) after, (parted n (nodes_of more) (nodes_of rest) is left).1)

-- ---- other nodes

pub leaf_loud : (ns : List Node) (at to : ℕ) (r m : Node) (x : tree.Node) → IsNode ns at to → r ≡ get_or ns at r → r ≡ m → flat_of m ≡ leaf x → (IsSilent x → ⊥) → (n : tree.Node) (next : ℕ) → NodeAt ns at n next → IsSilent n → ⊥
leaf_loud ns at to r m x req read same form loud n next there silent =
    loud (subst (λ y. IsSilent y) (leaf_is ns at to r m x req read same form n next there) silent)

pub one_loud : (ns : List Node) (at e to : ℕ) (r m : Node) (make : tree.Nodes → tree.Node) → IsNode ns at to → r ≡ get_or ns at r → r ≡ m → flat_of m ≡ record { head = with_one make; ends = e ∷ [] }
    → ((b : tree.Nodes) → IsSilent (make b) → ⊥) → (n : tree.Node) (next : ℕ) → NodeAt ns at n next → IsSilent n → ⊥
one_loud ns at e to r m make req read same form loud n next there silent =
    let (b, is, here, ends) = known_one ns at e n next make (subst (Known ns at n next) form (known ns at r m n next there (node_within ns at to req) read same)) in
    loud (nodes_of b) (subst (λ y. IsSilent y) is silent)

pub two_loud : (ns : List Node) (at t e to : ℕ) (r m : Node) (make : tree.Nodes → tree.Nodes → tree.Node) → IsNode ns at to → r ≡ get_or ns at r → r ≡ m → flat_of m ≡ record { head = with_two make; ends = t ∷ e ∷ [] }
    → ((b d : tree.Nodes) → IsSilent (make b d) → ⊥) → (n : tree.Node) (next : ℕ) → NodeAt ns at n next → IsSilent n → ⊥
two_loud ns at t e to r m make req read same form loud n next there silent =
    let (b, d, is, here, after, ends) = known_two ns at t e n next make (subst (Known ns at n next) form (known ns at r m n next there (node_within ns at to req) read same)) in
    loud (nodes_of b) (nodes_of d) (subst (λ y. IsSilent y) is silent)
