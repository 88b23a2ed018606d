-- How many turns a node takes, counted part by part.
use Rattle.std.proofs.Common.{◌≡◌, ℕ, ◌+◌, ◌-◌, ◌^◌, ◌<◌, ◌≤◌, List, [], ◌∷◌, length, get_or, None, Result, Ok, Err, refl, sym, ap, subst, ◌∙◌, arith}
use Rattle.std.proofs.lemmas.Bool.Decides.{nat_tests}
use Rattle.std.specs.Prelude.{OnOk}
use Rattle.liquid_core.specs.Expression.{Expression}
use Rattle.liquid_model.specs.declared.error.Error.{Error}
use Rattle.liquid_evaluation.specs.Tree as tree
use Rattle.liquid_syntax.specs.Flats.{Maker, IsForestAt, IsNode, NodeAt, arm_ends, arm_values, bodies_of, case_flat, flat_of, flats, leaf, nodes_of, with_arms, with_one, with_two}
use Rattle.liquid_syntax.specs.Forest.{Forest, empty, node}
use Rattle.liquid_syntax.specs.declared.node.Arm.{Arm}
use Rattle.liquid_syntax.specs.declared.node.BodyEnds.{BodyEnds}
use Rattle.liquid_evaluation.specs.declared.condition.Condition.{Condition}
use Rattle.liquid_evaluation.specs.ConditionView.{condition_view}
use Rattle.liquid_syntax.specs.declared.node.Node.{Node}
use Rattle.liquid_syntax.specs.declared.node.Node.TheVariants.{Text as Plain, Output, Assign, Raw, Comment, If, Unless, Capture, Case, For, TableRow, Break, Continue, Increment, Decrement, Cycle, IfChanged, Filtered, Include, JekyllInclude, Render, RenderEach}
use Rattle.liquid_syntax.proofs.Places.{Stands-le, nothing_left}
use Rattle.liquid_engine.specs.Limits.{Takes, TakesTurns}
use Rattle.liquid_engine.specs.declared.limits.Limits.{Limits}
use Rattle.liquid_engine.specs.inside.Choices.{CaseStands}
use Rattle.liquid_engine.specs.inside.NodeTurns.{comparisons, elsif_comparisons, counted_turns, listed_values, node_turns, when_values}
use Rattle.liquid_engine.proofs.Cases.{known_case}
use Rattle.liquid_engine.proofs.Choices.{LoneIf, lone_if, range_within}
use Rattle.liquid_engine.proofs.Going.{Known, first, known, known_one, known_two, leaf_is, node_within}

-- ---- sums up to the greatest number

-- a part more, of a sum that is cut
pub counted_more : (a b r : ℕ) → counted_turns (a + (b + r)) ≡ counted_turns (counted_turns (a + b) + r)
counted_more a b r = grind (arith, nat_tests)

-- a count that fits
pub counted_small : (a : ℕ) → a ≤ 2 ^ 64 - 1 → a ≡ counted_turns a
counted_small a le = grind (arith, nat_tests)

pub counted_fits : (a : ℕ) → counted_turns a ≤ 2 ^ 64 - 1
counted_fits a = grind (arith, nat_tests)

-- nothing more
pub counted_whole : (a : ℕ) → a ≤ 2 ^ 64 - 1 → counted_turns (a + 0) ≡ a
counted_whole a le = grind (arith, nat_tests)

-- ---- nodes that are no `if`

abbrev pub IsIf : tree.Node → Type 0
IsIf (tree.if_true c b d) = Unit {0}
IsIf _ = ⊥

abbrev pub NoIf : Node → Type 0
NoIf m = (condition : Condition) (bodies : BodyEnds) → m ≡ If condition bodies → ⊥

arms_no_if : (make : tree.Whens → tree.Nodes → tree.Node) → ((ws : tree.Whens) (o : tree.Nodes) → IsIf (make ws o) → ⊥) → (vss : List (List Expression)) (fs : List tree.Nodes) → IsIf (with_arms make vss fs) → ⊥
arms_no_if make other [] [] h = h
arms_no_if make other [] (o ∷ []) h = other tree.no_whens o h
arms_no_if make other [] (o ∷ p ∷ fs) h = h
arms_no_if make other (vs ∷ vss) [] h = h
arms_no_if make other (vs ∷ vss) (f ∷ fs) h = arms_no_if (λ ws o. make (tree.when vs f ws) o) (λ ws o. other (tree.when vs f ws) o) vss fs h

-- what such a node makes is no `if`
other_no_if : (m : Node) → NoIf m → (fs : List tree.Nodes) → IsIf ((flat_of m).head fs) → ⊥
other_no_if (Plain t) other fs h = h
other_no_if (Output chain) other fs h = h
other_no_if (Assign name chain) other fs h = h
other_no_if (Raw t) other fs h = h
other_no_if Comment other fs h = h
other_no_if (If condition bodies) other fs h = other condition bodies refl
other_no_if (Unless condition bodies) other [] h = h
other_no_if (Unless condition bodies) other (b ∷ []) h = h
other_no_if (Unless condition bodies) other (b ∷ d ∷ []) h = h
other_no_if (Unless condition bodies) other (b ∷ d ∷ e ∷ fs) h = h
other_no_if (Capture name end) other [] h = h
other_no_if (Capture name end) other (b ∷ []) h = h
other_no_if (Capture name end) other (b ∷ d ∷ fs) h = h
other_no_if (Case target arms end) other fs h = arms_no_if _ (λ ws o k. k) _ fs h
other_no_if (For f bodies) other [] h = h
other_no_if (For f bodies) other (b ∷ []) h = h
other_no_if (For f bodies) other (b ∷ d ∷ []) h = h
other_no_if (For f bodies) other (b ∷ d ∷ e ∷ fs) h = h
other_no_if (TableRow r end) other [] h = h
other_no_if (TableRow r end) other (b ∷ []) h = h
other_no_if (TableRow r end) other (b ∷ d ∷ fs) h = h
other_no_if Break other fs h = h
other_no_if Continue other fs h = h
other_no_if (Increment name) other fs h = h
other_no_if (Decrement name) other fs h = h
other_no_if (Cycle group values) other fs h = h
other_no_if (IfChanged end) other [] h = h
other_no_if (IfChanged end) other (b ∷ []) h = h
other_no_if (IfChanged end) other (b ∷ d ∷ fs) h = h
other_no_if (Filtered filters end) other [] h = h
other_no_if (Filtered filters end) other (b ∷ []) h = h
other_no_if (Filtered filters end) other (b ∷ d ∷ fs) h = h
other_no_if (Include name bindings) other fs h = h
other_no_if (JekyllInclude name bindings) other fs h = h
other_no_if (Render name bindings) other fs h = h
other_no_if (RenderEach name each bindings) other fs h = h

no_elsif : (n : tree.Node) (more : tree.Nodes) → (IsIf n → ⊥) → elsif_comparisons (tree.node n more) ≡ 0
no_elsif (tree.plain t) more other = refl
no_elsif (tree.raw t) more other = refl
no_elsif tree.comment more other = refl
no_elsif (tree.output c) more other = refl
no_elsif (tree.assign t c) more other = refl
no_elsif (tree.increment t) more other = refl
no_elsif (tree.decrement t) more other = refl
no_elsif tree.break_loop more other = refl
no_elsif tree.continue_loop more other = refl
no_elsif (tree.cycle t xs) more other = refl
no_elsif (tree.if_true c b d) more other = absurd (other tt)
no_elsif (tree.unless c b d) more other = refl
no_elsif (tree.case_of x ws o) more other = refl
no_elsif (tree.for_each t s w b d) more other = refl
no_elsif (tree.tablerow t s w x b) more other = refl
no_elsif (tree.capture t b) more other = refl
no_elsif (tree.ifchanged b) more other = refl
no_elsif (tree.filtered filters b) more other = refl
no_elsif (tree.include x bs) more other = refl
no_elsif (tree.jekyll_include c bs) more other = refl
no_elsif (tree.render x o bs) more other = refl

-- an `if` that other nodes follow is no `elsif`
followed : (n m : tree.Node) (more : tree.Nodes) → elsif_comparisons (tree.node n (tree.node m more)) ≡ 0
followed (tree.plain t) m more = refl
followed (tree.raw t) m more = refl
followed tree.comment m more = refl
followed (tree.output c) m more = refl
followed (tree.assign t c) m more = refl
followed (tree.increment t) m more = refl
followed (tree.decrement t) m more = refl
followed tree.break_loop m more = refl
followed tree.continue_loop m more = refl
followed (tree.cycle t xs) m more = refl
followed (tree.if_true c b d) m more = refl
followed (tree.unless c b d) m more = refl
followed (tree.case_of x ws o) m more = refl
followed (tree.for_each t s w b d) m more = refl
followed (tree.tablerow t s w x b) m more = refl
followed (tree.capture t b) m more = refl
followed (tree.ifchanged b) m more = refl
followed (tree.filtered filters b) m more = refl
followed (tree.include x bs) m more = refl
followed (tree.jekyll_include c bs) m more = refl
followed (tree.render x o bs) m more = refl

-- ---- the walk along the `elsif`s

-- the nodes from here to the end have what all have beyond the count
abbrev pub TurnsLeft : List Node → ℕ → ℕ → ℕ → tree.Nodes → Type 0
TurnsLeft ns at to count all = (rest : Forest Maker) × IsForestAt ns at rest to × (counted_turns (elsif_comparisons all) ≡ counted_turns (count + elsif_comparisons (nodes_of rest)))

none_more : (count : ℕ) (all rest : tree.Nodes) → count ≤ 2 ^ 64 - 1 → counted_turns (elsif_comparisons all) ≡ counted_turns (count + elsif_comparisons rest) → elsif_comparisons rest ≡ 0 → count ≡ counted_turns (elsif_comparisons all)
none_more count all rest le is none = sym (is ∙ ap (λ x. counted_turns (count + x)) none ∙ counted_whole count le)

-- the range is over
pub elsifs_over : (ns : List Node) (at to count : ℕ) (all : tree.Nodes) → TurnsLeft ns at to count all → count ≤ 2 ^ 64 - 1 → to ≤ at → count ≡ counted_turns (elsif_comparisons all)
elsifs_over ns at to count all (rest, stands, is) le over =
    none_more count all (nodes_of rest) le is (ap (λ x. elsif_comparisons (nodes_of x)) (nothing_left (flats ns) at rest to stands over))

module _ (ns : List Node) (at to count : ℕ) (all : tree.Nodes) (r : Node) (left : TurnsLeft ns at to count all) (read : r ≡ get_or ns at r) (le : count ≤ 2 ^ 64 - 1) where
  -- another node begins it
  pub elsifs_other : at < to → NoIf r → count ≡ counted_turns (elsif_comparisons all)
  elsifs_other lt other =
      let (rest, stands, is) = left in
      let (n, next, more, there, made, after, past_le, past) = first ns at rest to stands lt in
      let (bs, inner, head, ends) = known ns at r r n next there (range_within ns at to rest stands lt) read refl in
      none_more count all (nodes_of rest) le is (ap elsif_comparisons made ∙ no_elsif n (nodes_of more) (λ h. other_no_if r other (bodies_of bs) (subst IsIf head h)))

module _ (ns : List Node) (at to count : ℕ) (all : tree.Nodes) (condition : Condition) (bodies : BodyEnds) (r : Node) (left : TurnsLeft ns at to count all) (read : r ≡ get_or ns at r) (same : r ≡ If condition bodies) (lt : at < to) where
  -- an `if` begins it that other nodes follow
  pub elsifs_followed : count ≤ 2 ^ 64 - 1 → (bodies.last_end ≡ to → ⊥) → count ≡ counted_turns (elsif_comparisons all)
  elsifs_followed le others =
      let (rest, stands, is) = left in
      let (n, next, more, there, made, after, past_le, past) = first ns at rest to stands lt in
      let (bs, inner, head, ends) = known ns at r (If condition bodies) n next there (range_within ns at to rest stands lt) read same in
      none_more count all (nodes_of rest) le is (ap elsif_comparisons made ∙ on n next more after (λ over. others (sym ends ∙ over)))
    where
      on : (n : tree.Node) (next : ℕ) (more : Forest Maker) → IsForestAt ns next more to → (next ≡ to → ⊥) → elsif_comparisons (tree.node n (nodes_of more)) ≡ 0
      on n next empty after other = absurd (other after)
      on n next (node h bs more) after other = followed n (h (bodies_of bs)) (nodes_of more)

  abbrev c : tree.Condition
  c = condition_view condition

  the_elsif : bodies.last_end ≡ to → (rest : Forest Maker) × (LoneIf ns at bodies.first_end to c rest) × (counted_turns (elsif_comparisons all) ≡ counted_turns (count + elsif_comparisons (nodes_of rest)))
  the_elsif ends =
      let (rest, stands, is) = left in
      (rest, lone_if ns at bodies.first_end to c rest r (If condition bodies) stands lt read same (ap (λ k. flat_of (If condition (record { first_end = bodies.first_end; last_end = k }))) ends), is)

  -- one that ends it is an `elsif`
  pub elsifs_next : (more : ℕ) → bodies.last_end ≡ to → more ≡ counted_turns (count + comparisons c) → TurnsLeft ns bodies.first_end to more all
  elsifs_next more ends sum =
      let (rest, (b, d, here, after, list), is) = the_elsif ends in
      (d, after, is ∙ ap (λ x. counted_turns (count + elsif_comparisons x)) list ∙ counted_more count (comparisons c) (elsif_comparisons (nodes_of d)) ∙ ap (λ x. counted_turns (x + elsif_comparisons (nodes_of d))) (sym sum))

  -- its `else` stands after it
  pub elsifs_order : bodies.last_end ≡ to → (at < bodies.first_end) × (bodies.first_end ≤ to)
  elsifs_order ends =
      let (rest, (b, d, here, after, list), is) = the_elsif ends in
      let le = Stands-le (flats ns) (at + 1) b bodies.first_end here in
      (omega arith, Stands-le (flats ns) bodies.first_end d to after)

-- ---- what is taken

-- where there is no limit, any number is taken
pub takes_any : (n m : ℕ) (old new : Limits) → old.turns ≡ None → TakesTurns n old new → TakesTurns m old new
takes_any n m old new none h = (subst (λ o. Takes m o new.turns) (sym none) (subst (λ o. Takes n o new.turns) none h.0), h.1)

-- ---- by kind

pub turns_leaf : (ns : List Node) (at to : ℕ) (r m : Node) (x : tree.Node) (k : ℕ) → IsNode ns at to → r ≡ get_or ns at r → r ≡ m → flat_of m ≡ leaf x → k ≡ counted_turns (node_turns x)
    → (n : tree.Node) (next : ℕ) → NodeAt ns at n next → k ≡ counted_turns (node_turns n)
turns_leaf ns at to r m x k req read same form is n next there = is ∙ ap (λ y. counted_turns (node_turns y)) (sym (leaf_is ns at to r m x req read same form n next there))

pub turns_two : (ns : List Node) (at t e to : ℕ) (r m : Node) (make : tree.Nodes → tree.Nodes → tree.Node) (k : ℕ) → IsNode ns at to → r ≡ get_or ns at r → r ≡ m → flat_of m ≡ record { head = with_two make; ends = t ∷ e ∷ [] }
    → ((b d : Forest Maker) → IsForestAt ns t d e → k ≡ counted_turns (node_turns (make (nodes_of b) (nodes_of d)))) → (n : tree.Node) (next : ℕ) → NodeAt ns at n next → k ≡ counted_turns (node_turns n)
turns_two ns at t e to r m make k req read same form is n next there =
    let (b, d, made, here, after, ends) = known_two ns at t e n next make (subst (Known ns at n next) form (known ns at r m n next there (node_within ns at to req) read same)) in
    is b d after ∙ ap (λ y. counted_turns (node_turns y)) (sym made)

pub turns_one : (ns : List Node) (at e to : ℕ) (r m : Node) (make : tree.Nodes → tree.Node) (k : ℕ) → IsNode ns at to → r ≡ get_or ns at r → r ≡ m → flat_of m ≡ record { head = with_one make; ends = e ∷ [] }
    → ((b : Forest Maker) → k ≡ counted_turns (node_turns (make (nodes_of b)))) → (n : tree.Node) (next : ℕ) → NodeAt ns at n next → k ≡ counted_turns (node_turns n)
turns_one ns at e to r m make k req read same form is n next there =
    let (b, made, here, ends) = known_one ns at e n next make (subst (Known ns at n next) form (known ns at r m n next there (node_within ns at to req) read same)) in
    is b ∙ ap (λ y. counted_turns (node_turns y)) (sym made)

-- the values of the `when` parts that stand there
listed_whens : (ns : List Node) (from : ℕ) (arms : List Arm) (last : ℕ) (ws : tree.Whens) (o : tree.Nodes) → CaseStands ns from arms last ws o → listed_values (arm_values arms) ≡ when_values ws
listed_whens ns from [] last tree.no_whens o s = refl
listed_whens ns from [] last (tree.when values body ws) o s = absurd s
listed_whens ns from (arm ∷ arms) last tree.no_whens o s = absurd s
listed_whens ns from (arm ∷ arms) last (tree.when values body ws) o (f, stands, vs, is, more) =
    ap (λ x. x + listed_values (arm_values arms)) (ap length (sym vs)) ∙ ap (λ x. length values + x) (listed_whens ns arm.end arms last ws o more)

pub turns_case : (ns : List Node) (at : ℕ) (target : Expression) (arms : List Arm) (last to : ℕ) (r m : Node) (k : ℕ) → IsNode ns at to → r ≡ get_or ns at r → r ≡ m → flat_of m ≡ case_flat target (arm_values arms) (arm_ends arms) last
    → k ≡ counted_turns (1 + listed_values (arm_values arms)) → (n : tree.Node) (next : ℕ) → NodeAt ns at n next → k ≡ counted_turns (node_turns n)
turns_case ns at target arms last to r m k req read same form is n next there =
    let (ws, o, stands, made, ends) = known_case ns at target arms last to r m req read same form n next there in
    is ∙ ap (λ x. counted_turns (1 + x)) (listed_whens ns (at + 1) arms last ws o stands) ∙ ap (λ y. counted_turns (node_turns y)) (sym made)

-- what holds of an answer that is no fault
pub ok_each : {V : Type 0} {P Q : Type 0} (r : Result V Error) → OnOk r P → (P → Q) → OnOk r Q
ok_each (Ok value) h f = f h
ok_each (Err e) h f = h
