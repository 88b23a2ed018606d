-- What a choice comes to, step by step.
use Rattle.std.proofs.Common.{◌≡◌, ℕ, ◌+◌, ◌<◌, ◌≤◌, List, [], ◌∷◌, length, get_or, Bool, true, false, cond, Result, Ok, Err, inl, inr, refl, sym, ap, subst, ◌∙◌, arith}
use Rattle.std.specs.Prelude.{IfOk, MatchBool, ⊤}
use Rattle.std.proofs.lemmas.List.{length-map}
use Rattle.liquid_model.specs.Texts.{Text}
use Rattle.liquid_model.specs.declared.error.Error.{Error}
use Rattle.liquid_model.specs.declared.error.ErrorKind.{ErrorKind}
use Rattle.liquid_model.specs.Answer.{Answers}
use Rattle.liquid_model.specs.ErrorKinds.{is_memory, is_refusal}
use Rattle.liquid_core.specs.Environment.{Environment, Names}
use Rattle.liquid_evaluation.specs.ConditionView.{condition_view}
use Rattle.liquid_evaluation.specs.Evaluation.{truth_of}
use Rattle.liquid_syntax.specs.Flats.{IsNodeRange, Maker, with_two, flat_of, flats, nodes_of, IsForestAt}
use Rattle.liquid_syntax.specs.Forest.{Forest, empty}
use Rattle.liquid_evaluation.specs.Names.{node_names, nodes_names, condition_names}
use Rattle.liquid_evaluation.specs.Tree as tree
use Rattle.liquid_evaluation.specs.declared.condition.Condition.{Condition}
use Rattle.liquid_syntax.specs.declared.node.Node.{Node}
use Rattle.liquid_syntax.specs.declared.node.Node.TheVariants.{If}
use Rattle.liquid_syntax.specs.declared.node.BodyEnds.{BodyEnds}
use Rattle.liquid_syntax.proofs.Places.{Stands-le, first-within, nothing_left}
use Rattle.liquid_engine.specs.inside.Choices.{Meant, Chosen, Refused, ComesTo}
use Rattle.liquid_engine.specs.inside.Engine.{nodes_meant}
use Rattle.liquid_meaning.specs.Meaning.{Setting, node_meaning, nodes_meaning, deeper_meaning}
use Rattle.liquid_engine.specs.Performs.{Configuration, MeetsAt, Performs, unit}
use Rattle.liquid_meaning.specs.Runs.{Nothing, Run, evaluate}
use Rattle.liquid_meaning.specs.Within.{Within}
use Rattle.liquid_engine.proofs.Going.{first, Known, known, known_two}
use Rattle.liquid_engine.proofs.Joined.{memory_of}
use Rattle.liquid_meaning.proofs.Rules.{if_rule, unless_rule}
use Rattle.liquid_engine.proofs.Sinks.{Adds-nil, AddsPart-none}
use Rattle.liquid_meaning.proofs.Steps.{alone, bind_ok, bind_fault}
use Rattle.liquid_meaning.proofs.Within.{left, right}

-- ---- the rule of `if`, by the truth of its condition

module _ (setting : Setting) (deeper : tree.Nodes → Run Nothing) (c : tree.Condition) (b d : tree.Nodes) (e : Environment) where
  abbrev by_truth : Bool → Run Nothing
  by_truth holds = cond holds (nodes_meaning setting deeper b) (nodes_meaning setting deeper d)

  if_holds : truth_of c e ≡ Ok true → node_meaning setting deeper (tree.if_true c b d) e ≡ nodes_meaning setting deeper b e
  unfolding evaluate
  if_holds is = (λ i. if_rule setting deeper c b d i e) ∙ bind_ok (evaluate (truth_of c)) by_truth e true is

  if_fails : truth_of c e ≡ Ok false → node_meaning setting deeper (tree.if_true c b d) e ≡ nodes_meaning setting deeper d e
  unfolding evaluate
  if_fails is = (λ i. if_rule setting deeper c b d i e) ∙ bind_ok (evaluate (truth_of c)) by_truth e false is

  if_refused : (kind : ErrorKind) → truth_of c e ≡ Err kind → node_meaning setting deeper (tree.if_true c b d) e ≡ record { text = []; environment = e; end = Err kind }
  unfolding evaluate
  if_refused kind is = (λ i. if_rule setting deeper c b d i e) ∙ bind_fault (evaluate (truth_of c)) by_truth e kind is

-- ---- the rule of `unless`, likewise

module _ (setting : Setting) (deeper : tree.Nodes → Run Nothing) (c : tree.Condition) (b d : tree.Nodes) (e : Environment) where
  abbrev by_untruth : Bool → Run Nothing
  by_untruth holds = cond holds (nodes_meaning setting deeper d) (nodes_meaning setting deeper b)

  unless_holds : truth_of c e ≡ Ok true → node_meaning setting deeper (tree.unless c b d) e ≡ nodes_meaning setting deeper d e
  unfolding evaluate
  unless_holds is = (λ i. unless_rule setting deeper c b d i e) ∙ bind_ok (evaluate (truth_of c)) by_untruth e true is

  unless_fails : truth_of c e ≡ Ok false → node_meaning setting deeper (tree.unless c b d) e ≡ nodes_meaning setting deeper b e
  unfolding evaluate
  unless_fails is = (λ i. unless_rule setting deeper c b d i e) ∙ bind_ok (evaluate (truth_of c)) by_untruth e false is

  unless_refused : (kind : ErrorKind) → truth_of c e ≡ Err kind → node_meaning setting deeper (tree.unless c b d) e ≡ record { text = []; environment = e; end = Err kind }
  unfolding evaluate
  unless_refused kind is = (λ i. unless_rule setting deeper c b d i e) ∙ bind_fault (evaluate (truth_of c)) by_untruth e kind is

-- ---- the names of its parts

body_names : (c : tree.Condition) (b d : tree.Nodes) (N : Names) → Within N (node_names (tree.if_true c b d)) → Within N (nodes_names b)
unfolding node_names
body_names c b d N h = left N (nodes_names b) (nodes_names d) (right N (condition_names c) _ h)

else_names : (c : tree.Condition) (b d : tree.Nodes) (N : Names) → Within N (node_names (tree.if_true c b d)) → Within N (nodes_names d)
unfolding node_names
else_names c b d N h = right N (nodes_names b) (nodes_names d) (right N (condition_names c) _ h)

unless_body_names : (c : tree.Condition) (b d : tree.Nodes) (N : Names) → Within N (node_names (tree.unless c b d)) → Within N (nodes_names b)
unfolding node_names
unless_body_names c b d N h = left N (nodes_names b) (nodes_names d) (right N (condition_names c) _ h)

unless_else_names : (c : tree.Condition) (b d : tree.Nodes) (N : Names) → Within N (node_names (tree.unless c b d)) → Within N (nodes_names d)
unfolding node_names
unless_else_names c b d N h = right N (nodes_names b) (nodes_names d) (right N (condition_names c) _ h)

alone_names : (n : tree.Node) (N : Names) → Within N (nodes_names (tree.node n tree.no_nodes)) → Within N (node_names n)
unfolding nodes_names
alone_names n N h = left N (node_names n) [] h

-- ---- what comes to the same

abbrev pub list_meant : tree.Nodes → Meant
list_meant nodes = λ setting deeper. nodes_meaning setting deeper nodes

abbrev pub node_meant : tree.Node → Meant
node_meant n = λ setting deeper. node_meaning setting deeper n

-- what does in e what m does, and mentions more names, comes to what m comes to
comes_as : (ns : List Node) (e : Environment) (few many : List Text) (m n : Meant) (r : Result (ℕ × ℕ) Error) → ((N : Names) → Within N many → Within N few)
    → ((setting : Setting) (deeper : tree.Nodes → Run Nothing) → n setting deeper e ≡ m setting deeper e) → ComesTo ns e few m r → ComesTo ns e many n r
comes_as ns e few many m n (Ok range) names same x = record {
  nodes = x.nodes;
  stands = x.stands;
  within = λ N h. x.within N (names N h);
  same = λ setting deeper. same setting deeper ∙ x.same setting deeper;
}
comes_as ns e few many m n (Err x) names same h = on (is_memory x.kind) h
  where
    on : (memory : Bool) → MatchBool memory ⊤ (Refused e m x.kind × (is_refusal x.kind ≡ false)) → MatchBool memory ⊤ (Refused e n x.kind × (is_refusal x.kind ≡ false))
    on true k = k
    on false k = ((λ setting deeper. same setting deeper ∙ k.0 setting deeper), k.1)

-- the nodes from `at` to `to` are what the list comes to
abbrev pub Comes : List Node → Environment → tree.Nodes → ℕ → ℕ → Type 0
Comes ns e nodes at to = Chosen ns e (nodes_names nodes) (list_meant nodes) at to

pub comes_itself : (ns : List Node) (e : Environment) (f : Forest Maker) (from to : ℕ) → IsForestAt ns from f to → Comes ns e (nodes_of f) from to
comes_itself ns e f from to stands = record { nodes = f; stands = stands; within = λ N h. h; same = λ setting deeper. refl }

-- a node that ends by its condition's fault comes to that fault
faulted : (ns : List Node) (c : tree.Condition) (n : tree.Node) (e : Environment) (x : Error) → ((kind : ErrorKind) → truth_of c e ≡ Err kind → Refused e (node_meant n) kind)
    → Answers (λ (v : Bool). v) (Err x) (truth_of c e) → ComesTo ns e (node_names n) (node_meant n) (Err x)
faulted ns c n e x refused h = on (is_memory x.kind) h
  where
    on : (memory : Bool) → MatchBool memory ⊤ ((truth_of c e ≡ Err x.kind) × (is_refusal x.kind ≡ false)) → MatchBool memory ⊤ (Refused e (node_meant n) x.kind × (is_refusal x.kind ≡ false))
    on true k = k
    on false k = (refused x.kind k.0, k.1)

-- ---- an `if`

module _ (ns : List Node) (c : tree.Condition) (b d : tree.Nodes) (e : Environment) where
  -- its body, where the condition holds
  pub takes_body : (r : Result (ℕ × ℕ) Error) → truth_of c e ≡ Ok true → ComesTo ns e (nodes_names b) (list_meant b) r → ComesTo ns e (node_names (tree.if_true c b d)) (node_meant (tree.if_true c b d)) r
  takes_body r is h = comes_as ns e _ _ (list_meant b) (node_meant (tree.if_true c b d)) r (body_names c b d) (λ setting deeper. if_holds setting deeper c b d e is) h

  -- what its `else` comes to, where it doesn't
  pub takes_else : (r : Result (ℕ × ℕ) Error) → truth_of c e ≡ Ok false → ComesTo ns e (nodes_names d) (list_meant d) r → ComesTo ns e (node_names (tree.if_true c b d)) (node_meant (tree.if_true c b d)) r
  takes_else r is h = comes_as ns e _ _ (list_meant d) (node_meant (tree.if_true c b d)) r (else_names c b d) (λ setting deeper. if_fails setting deeper c b d e is) h

  -- the condition's fault
  pub takes_fault : (x : Error) → Answers (λ (v : Bool). v) (Err x) (truth_of c e) → ComesTo ns e (node_names (tree.if_true c b d)) (node_meant (tree.if_true c b d)) (Err x)
  takes_fault x h = faulted ns c (tree.if_true c b d) e x (λ kind is setting deeper. if_refused setting deeper c b d e kind is) h

-- ---- an `unless`

module _ (ns : List Node) (c : tree.Condition) (b d : tree.Nodes) (e : Environment) where
  -- its body, where the condition doesn't hold
  pub takes_unless_body : (r : Result (ℕ × ℕ) Error) → truth_of c e ≡ Ok false → ComesTo ns e (nodes_names b) (list_meant b) r → ComesTo ns e (node_names (tree.unless c b d)) (node_meant (tree.unless c b d)) r
  takes_unless_body r is h = comes_as ns e _ _ (list_meant b) (node_meant (tree.unless c b d)) r (unless_body_names c b d) (λ setting deeper. unless_fails setting deeper c b d e is) h

  -- its `else`, where it does
  pub takes_unless_else : (r : Result (ℕ × ℕ) Error) → truth_of c e ≡ Ok true → ComesTo ns e (nodes_names d) (list_meant d) r → ComesTo ns e (node_names (tree.unless c b d)) (node_meant (tree.unless c b d)) r
  takes_unless_else r is h = comes_as ns e _ _ (list_meant d) (node_meant (tree.unless c b d)) r (unless_else_names c b d) (λ setting deeper. unless_holds setting deeper c b d e is) h

  -- the condition's fault
  pub takes_unless_fault : (x : Error) → Answers (λ (v : Bool). v) (Err x) (truth_of c e) → ComesTo ns e (node_names (tree.unless c b d)) (node_meant (tree.unless c b d)) (Err x)
  takes_unless_fault x h = faulted ns c (tree.unless c b d) e x (λ kind is setting deeper. unless_refused setting deeper c b d e kind is) h

-- ---- a range that is one `if`

abbrev pub LoneIf : List Node → ℕ → ℕ → ℕ → tree.Condition → Forest Maker → Type 0
LoneIf ns at t e c f = (b d : Forest Maker) × IsForestAt ns (at + 1) b t × IsForestAt ns t d e × (nodes_of f ≡ tree.node (tree.if_true c (nodes_of b) (nodes_of d)) tree.no_nodes)

-- a range that isn't over begins inside the list
pub range_within : (ns : List Node) (at to : ℕ) (f : Forest Maker) → IsForestAt ns at f to → at < to → at < length ns
range_within ns at to f stands lt = subst (λ k. at < k) (length-map ns flat_of) (first-within (flats ns) at f to stands lt)

pub lone_if : (ns : List Node) (at t e : ℕ) (c : tree.Condition) (f : Forest Maker) (r m : Node) → IsForestAt ns at f e → at < e → r ≡ get_or ns at r → r ≡ m → flat_of m ≡ record { head = with_two (tree.if_true c); ends = t ∷ e ∷ [] }
    → LoneIf ns at t e c f
lone_if ns at t e c f r m stands lt read same form =
    let (n, next, rest, there, is, after, le, past) = first ns at f e stands lt in
    let (b, d, made, here, then_, ends) = known_two ns at t e n next (tree.if_true c) (subst (Known ns at n next) form (known ns at r m n next there (range_within ns at e f stands lt) read same)) in
    let over : rest ≡ empty = nothing_left (flats ns) next rest e after (omega (arith, ends)) in
    (b, d, here, then_, is ∙ ap (λ x. tree.node n (nodes_of x)) over ∙ ap (λ x. tree.node x tree.no_nodes) made)

-- what its node comes to, a list of one node comes to
lone_comes : (ns : List Node) (e : Environment) (nodes : tree.Nodes) (n : tree.Node) (r : Result (ℕ × ℕ) Error) → nodes ≡ tree.node n tree.no_nodes
    → ComesTo ns e (node_names n) (node_meant n) r → ComesTo ns e (nodes_names nodes) (list_meant nodes) r
lone_comes ns e nodes n r is h = subst (λ x. ComesTo ns e (nodes_names x) (list_meant x) r) (sym is)
    (comes_as ns e (node_names n) _ (node_meant n) (list_meant (tree.node n tree.no_nodes)) r (alone_names n) (λ setting deeper. alone setting deeper n e) h)

-- ---- the walk along the `elsif`s

-- what those nodes come to, the list comes to
comes_on : (ns : List Node) (e : Environment) (nodes : tree.Nodes) (at to : ℕ) (r : Result (ℕ × ℕ) Error) (x : Comes ns e nodes at to)
    → ComesTo ns e (nodes_names (nodes_of x.nodes)) (list_meant (nodes_of x.nodes)) r → ComesTo ns e (nodes_names nodes) (list_meant nodes) r
comes_on ns e nodes at to r x h = comes_as ns e _ _ (list_meant (nodes_of x.nodes)) (list_meant nodes) r x.within x.same h

-- the node at `at` is an `if` that ends where the range does
module _ (ns : List Node) (e : Environment) (nodes : tree.Nodes) (at to : ℕ) (condition : Condition) (bodies : BodyEnds) (r : Node) (x : Comes ns e nodes at to)
    (lt : at < to) (read : r ≡ get_or ns at r) (is : r ≡ If condition bodies) (ends : bodies.last_end ≡ to) where
  abbrev c : tree.Condition
  c = condition_view condition

  the_lone : LoneIf ns at bodies.first_end to c x.nodes
  the_lone = lone_if ns at bodies.first_end to c x.nodes r (If condition bodies) x.stands lt read is (ap (λ k. record { head = with_two (tree.if_true c); ends = bodies.first_end ∷ k ∷ [] }) ends)

  -- its condition holds
  pub comes_body : truth_of c e ≡ Ok true → Comes ns e nodes (at + 1) bodies.first_end
  comes_body holds =
      let (b, d, here, after, list) = the_lone in
      let r = Ok (at + 1, bodies.first_end) in
      comes_on ns e nodes at to r x (lone_comes ns e (nodes_of x.nodes) _ r list (takes_body ns c (nodes_of b) (nodes_of d) e r holds (comes_itself ns e b (at + 1) bodies.first_end here)))

  -- it doesn't
  pub comes_else : truth_of c e ≡ Ok false → Comes ns e nodes bodies.first_end to
  comes_else fails =
      let (b, d, here, after, list) = the_lone in
      let r = Ok (bodies.first_end, to) in
      comes_on ns e nodes at to r x (lone_comes ns e (nodes_of x.nodes) _ r list (takes_else ns c (nodes_of b) (nodes_of d) e r fails (comes_itself ns e d bodies.first_end to after)))

  -- it ends by a fault
  pub comes_fault : (y : Error) → Answers (λ (v : Bool). v) (Err y) (truth_of c e) → ComesTo ns e (nodes_names nodes) (list_meant nodes) (Err y)
  comes_fault y h =
      let (b, d, here, after, list) = the_lone in
      comes_on ns e nodes at to (Err y) x (lone_comes ns e (nodes_of x.nodes) _ (Err y) list (takes_fault ns c (nodes_of b) (nodes_of d) e y h))

  -- its body stands before its `else`, and that before the end
  pub in_order : (at < bodies.first_end) × (bodies.first_end ≤ to)
  in_order =
      let (b, d, here, after, list) = the_lone in
      let le = Stands-le (flats ns) (at + 1) b bodies.first_end here in
      (omega arith, Stands-le (flats ns) bodies.first_end d to after)

-- ---- a run of what was chosen

pub chosen_performs : (ns : List Node) (names : List Text) (meant : Meant) (from to depth : ℕ) (setting : Setting) (r : Result (Unit {0}) Error) (p u : Configuration) → Chosen ns p.environment names meant from to
    → ((f : Forest Maker) → IsForestAt ns from f to → Performs r (nodes_meant setting depth (nodes_of f)) p u) → Performs r (meant setting (deeper_meaning setting depth)) p u
chosen_performs ns names meant from to depth setting r p u x ran =
    subst (λ o. MeetsAt unit r o p.sink u.sink u.environment) (sym (x.same setting (deeper_meaning setting depth))) (ran x.nodes x.stands)

pub refused_performs : (ns : List Node) (names : List Text) (meant : Meant) (depth : ℕ) (setting : Setting) (x : Error) (p : Configuration) → ComesTo ns p.environment names meant (Err x)
    → Performs (Err x) (meant setting (deeper_meaning setting depth)) p p
refused_performs ns names meant depth setting x p h = on (is_memory x.kind) refl h
  where
    on : (memory : Bool) → is_memory x.kind ≡ memory → MatchBool memory ⊤ (Refused p.environment meant x.kind × (is_refusal x.kind ≡ false))
        → Performs (Err x) (meant setting (deeper_meaning setting depth)) p p
    on true is k = inr (record { cause = inl (memory_of x.kind is, inl refl); adds = AddsPart-none p.sink _ })
    on false is k = subst (λ o. MeetsAt unit (Err x) o p.sink p.sink p.environment) (sym (k.0 setting (deeper_meaning setting depth)))
        (inl (record { end = refl; within = k.1; adds = Adds-nil p.sink; none_failed = refl; same = refl }))

-- what a choice comes to stands inside of the range in which its node stands
pub chosen_inside : (ns : List Node) (e : Environment) (names : List Text) (meant : Meant) (at last to : ℕ) (r : Result (ℕ × ℕ) Error) → last ≤ to → IfOk r (λ range. (at < range.0) × (range.1 ≤ last)) → ComesTo ns e names meant r
    → IfOk r (λ range. (at < range.0) × (range.1 ≤ to) × IsNodeRange ns range.0 range.1)
chosen_inside ns e names meant at last to (Ok range) le inside x = (inside.0, (let last_le : range.1 ≤ last = inside.1 in let within : range.1 ≤ to = omega arith in within), (x.nodes, x.stands))
chosen_inside ns e names meant at last to (Err fault) le inside x = tt
