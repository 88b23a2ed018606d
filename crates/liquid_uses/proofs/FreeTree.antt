-- A name that the tree of a template reads freely is free where its list of nodes is scoped.
use Rattle.std.specs.Prelude.{slice_get, T, Option}
use Rattle.std.proofs.Common.{◌≡◌, ℕ, ◌+◌, ◌<◌, ◌≤◌, Bool, true, false, not, ◌&&◌, ◌||◌, List, [], ◌∷◌, ◌++◌, length, map, nat_lt, nat_eq, Some, None, codes, string_bytes, refl, sym, ap, ◌∙◌, subst, arith, option_map}
use Rattle.std.proofs.lemmas.Bool.{ltb-true, ltb-false, eqb-true}
use Rattle.std.proofs.lemmas.Option.{slice_get-map}
use Rattle.liquid_model.specs.Texts.{Text, same_text}
use Rattle.liquid_core.specs.Expression.{Expression}
use Rattle.liquid_core.specs.Environment.{Names}
use Rattle.liquid_core.specs.ExpressionView.{expression_view}
use Rattle.liquid_evaluation.specs.Tree as tree
use Rattle.liquid_evaluation.specs.Names.{all_names, expression_names, mentioned, whens_names}
use Rattle.liquid_meaning.specs.FreeNames.{PartialsRead, unbound, binds, node_reads, nodes_reads, whens_read}
use Rattle.liquid_syntax.specs.Forest.{Forest, Bodies, empty, node, no_bodies, body}
use Rattle.liquid_syntax.specs.Laid.{Flat, IsLaidOut, StandBodies, last_end}
use Rattle.liquid_syntax.specs.Flats.{Maker, arm_values, flat_of, flats, nodes_of, bodies_of, with_arms, with_one}
use Rattle.liquid_syntax.specs.Templates.{forest_of, template_nodes, tree_of}
use Rattle.liquid_syntax.specs.inside.Mentions.{arms_names}
use Rattle.liquid_syntax.specs.inside.OwnNodes.{own_whens}
use Rattle.liquid_syntax.specs.inside.NameVisitors.{mentioned_both}
use Rattle.liquid_syntax.specs.declared.template.Template.{Template}
use Rattle.liquid_syntax.specs.declared.node.Node.{Node}
use Rattle.liquid_syntax.specs.declared.node.Node.TheVariants.{Text as Plain, Output, Assign, Raw, Comment, If, Unless, Capture, Case, For, TableRow, Break, Continue, Increment, Decrement, Cycle, IfChanged, Filtered, Include, JekyllInclude, Render, RenderEach}
use Rattle.liquid_syntax.proofs.Places.{Stands-le, StandBodies-le}
use Rattle.liquid_syntax.proofs.Whole.{template_stands, tree_is}
use Rattle.liquid_uses.specs.inside.Scopes.{read_names, own_reads, is_either, BindsIn, end_at, Visible, free, bound, ends_at, bodies_end, AreScoped}

-- ---- tests

either : {X : Type 0} (a b : Bool) → T (a || b) → (T a → X) → (T b → X) → X
either true b h f g = f tt
either false b h f g = g h

first_of : (a b : Bool) → T a → T (a || b)
first_of true b h = tt
first_of false b h = absurd h

second_of : (a b : Bool) → T b → T (a || b)
second_of true b h = tt
second_of false b h = h

truly : (b : Bool) → b ≡ true → T b
truly b h = subst (λ c. T c) (sym h) tt

and_first : (a b : Bool) → (a && b) ≡ true → a ≡ true
and_first true b h = refl
and_first false b h = h

and_second : (a b : Bool) → (a && b) ≡ true → b ≡ true
and_second true b h = h
and_second false b h = absurd cc

-- ---- what a node reads is read by itself or in a body

abbrev any_reads : PartialsRead → List tree.Nodes → Names
any_reads R [] q = false
any_reads R (b ∷ bs) q = nodes_reads R b q || any_reads R bs q

-- what a loop binds in its first body
abbrev loop_names : Node → List Text
loop_names (For f bodies) = codes "forloop" ∷ string_bytes f.value.variable ∷ []
loop_names (TableRow r end) = codes "tablerow" ∷ string_bytes r.value.variable ∷ []
loop_names n = []

abbrev inner_reads : PartialsRead → List Text → List tree.Nodes → Names
inner_reads R names [] q = false
inner_reads R names (b ∷ bs) q = unbound names (nodes_reads R b) q || any_reads R bs q

module _ (R : PartialsRead) (q : Text) where
  -- own, and two bodies of which the first may be under a loop
  two : (own first second : Bool) → T (own || (first || second)) → T ((own || false) || (first || (second || false)))
  two true first second h = tt
  two false true second h = tt
  two false false true h = tt
  two false false false h = absurd h

  one : (own first : Bool) → T (own || first) → T ((own || false) || (first || false))
  one true first h = tt
  one false true h = tt
  one false false h = absurd h

  alone : (own : Bool) → T own → T ((own || false) || false)
  alone true h = tt
  alone false h = absurd h

  with_partial : (own other : Bool) → T (own || other) → T ((own || other) || false)
  with_partial true other h = tt
  with_partial false true h = tt
  with_partial false false h = absurd h

  arms_split : (make : tree.Whens → tree.Nodes → tree.Node) (c : Bool)
      → ((ws : tree.Whens) (o : tree.Nodes) → T (node_reads R (make ws o) q) → T (c || (whens_read R ws q || nodes_reads R o q)))
      → (vss : List (List Expression)) (bs : List tree.Nodes) → T (node_reads R (with_arms make vss bs) q) → T (c || (mentioned (arms_names vss) q || any_reads R bs q))
  unfolding whens_names own_whens node_reads
  arms_split make c k [] [] h = absurd h
  arms_split make c k [] (o ∷ []) h = subst (λ b. T (c || b)) (last (nodes_reads R o q)) (k tree.no_whens o h)
    where
      last : (b : Bool) → (false || b) ≡ (false || (b || false))
      last true = refl
      last false = refl
  arms_split make c k [] (o ∷ p ∷ bs) h = absurd h
  arms_split make c k (vs ∷ vss) [] h = absurd h
  arms_split make c k (vs ∷ vss) (f ∷ fs) h =
      let m = mentioned (all_names vs) q in
      let r = nodes_reads R f q in
      let rest = arms_split (λ ws o. make (tree.when vs f ws) o) (c || (m || r)) (λ ws o t. inwards c m r (whens_read R ws q) (nodes_reads R o q) (k (tree.when vs f ws) o t)) vss fs h in
      subst (λ b. T (c || (b || (r || any_reads R fs q)))) (sym (mentioned_both (all_names vs) (arms_names vss) q)) (outwards c m r (mentioned (arms_names vss) q) (any_reads R fs q) rest)
    where
      inwards : (c m r w o : Bool) → T (c || ((m || (r || w)) || o)) → T ((c || (m || r)) || (w || o))
      inwards true m r w o h = tt
      inwards false true r w o h = tt
      inwards false false true w o h = tt
      inwards false false false w o h = h

      outwards : (c m r a f : Bool) → T ((c || (m || r)) || (a || f)) → T (c || ((m || a) || (r || f)))
      outwards true m r a f h = tt
      outwards false true r a f h = tt
      outwards false false true true f h = tt
      outwards false false true false f h = tt
      outwards false false false a f h = h

  case_split : (target : Expression) (vss : List (List Expression)) (bs : List tree.Nodes)
      → T (node_reads R (with_arms (λ ws o. tree.case_of target ws o) vss bs) q) → T ((mentioned (expression_names target ++ arms_names vss) q || false) || inner_reads R [] bs q)
  unfolding node_reads
  case_split target vss bs h =
      subst (λ b. T ((b || false) || inner_reads R [] bs q)) (sym (mentioned_both (expression_names target) (arms_names vss) q))
      (grouped (mentioned (expression_names target) q) (mentioned (arms_names vss) q) bs (arms_split (λ ws o. tree.case_of target ws o) (mentioned (expression_names target) q) (λ ws o t. t) vss bs h))
    where
      grouped : (a b : Bool) (bs : List tree.Nodes) → T (a || (b || any_reads R bs q)) → T (((a || b) || false) || inner_reads R [] bs q)
      grouped true b bs h = tt
      grouped false true bs h = tt
      grouped false false [] h = absurd h
      grouped false false (f ∷ fs) h = h

  node_split : (n : Node) (bs : List tree.Nodes) → T (node_reads R ((flat_of n).head bs) q) → T (own_reads R n q || inner_reads R (loop_names n) bs q)
  unfolding node_reads
  node_split (Plain t) bs h = absurd h
  node_split (Output chain) bs h = first_of (own_reads R (Output chain) q) (inner_reads R [] bs q) (first_of (mentioned (read_names (Output chain)) q) false h)
  node_split (Assign name chain) bs h = first_of (own_reads R (Assign name chain) q) (inner_reads R [] bs q) (first_of (mentioned (read_names (Assign name chain)) q) false h)
  node_split (Raw t) bs h = absurd h
  node_split Comment bs h = absurd h
  node_split (If condition ends) (b ∷ c ∷ []) h = two (mentioned (read_names (If condition ends)) q) (nodes_reads R b q) (nodes_reads R c q) h
  node_split (If condition ends) [] h = absurd h
  node_split (If condition ends) (b ∷ []) h = absurd h
  node_split (If condition ends) (b ∷ c ∷ d ∷ bs) h = absurd h
  node_split (Unless condition ends) (b ∷ c ∷ []) h = two (mentioned (read_names (Unless condition ends)) q) (nodes_reads R b q) (nodes_reads R c q) h
  node_split (Unless condition ends) [] h = absurd h
  node_split (Unless condition ends) (b ∷ []) h = absurd h
  node_split (Unless condition ends) (b ∷ c ∷ d ∷ bs) h = absurd h
  node_split (Capture name end) (b ∷ []) h = first_of (nodes_reads R b q) false h
  node_split (Capture name end) [] h = absurd h
  node_split (Capture name end) (b ∷ c ∷ bs) h = absurd h
  node_split (Case target arms end) bs h = case_split (expression_view target) (arm_values arms.items) bs h
  node_split (For f ends) (b ∷ c ∷ []) h = two (mentioned (read_names (For f ends)) q) (unbound (loop_names (For f ends)) (nodes_reads R b) q) (nodes_reads R c q) h
  node_split (For f ends) [] h = absurd h
  node_split (For f ends) (b ∷ []) h = absurd h
  node_split (For f ends) (b ∷ c ∷ d ∷ bs) h = absurd h
  node_split (TableRow r end) (b ∷ []) h = one (mentioned (read_names (TableRow r end)) q) (unbound (loop_names (TableRow r end)) (nodes_reads R b) q) h
  node_split (TableRow r end) [] h = absurd h
  node_split (TableRow r end) (b ∷ c ∷ bs) h = absurd h
  node_split Break bs h = absurd h
  node_split Continue bs h = absurd h
  node_split (Increment name) bs h = absurd h
  node_split (Decrement name) bs h = absurd h
  node_split (Cycle group values) bs h = first_of (own_reads R (Cycle group values) q) (inner_reads R [] bs q) (first_of (mentioned (read_names (Cycle group values)) q) false h)
  node_split (IfChanged end) (b ∷ []) h = first_of (nodes_reads R b q) false h
  node_split (IfChanged end) [] h = absurd h
  node_split (IfChanged end) (b ∷ c ∷ bs) h = absurd h
  node_split (Filtered filters end) (b ∷ []) h = one (mentioned (read_names (Filtered filters end)) q) (nodes_reads R b q) h
  node_split (Filtered filters end) [] h = absurd h
  node_split (Filtered filters end) (b ∷ c ∷ bs) h = absurd h
  node_split (Include name pairs) bs h = first_of (own_reads R (Include name pairs) q) (inner_reads R [] bs q) h
  node_split (JekyllInclude name pairs) bs h = first_of (own_reads R (JekyllInclude name pairs) q) (inner_reads R [] bs q) h
  node_split (Render name pairs) bs h = first_of (own_reads R (Render name pairs) q) (inner_reads R [] bs q) (first_of (mentioned (read_names (Render name pairs)) q) false h)
  node_split (RenderEach name each pairs) bs h = first_of (own_reads R (RenderEach name each pairs) q) (inner_reads R [] bs q) (first_of (mentioned (read_names (RenderEach name each pairs)) q) false h)

-- ---- where a node binds a name

pub within : {X : Type 0} (a b : ℕ) → (a < b → X) → (b ≤ a → X) → X
within {X = X} a b f g = on (nat_lt a b) refl
  where
    on : (c : Bool) → nat_lt a b ≡ c → X
    on true e = f (ltb-true a b e)
    on false e = g (ltb-false a b e)

abbrev first_end : ℕ → List ℕ → ℕ
first_end at [] = at
first_end at (e ∷ es) = e

either_mentioned : (a b : Text) (q : Text) → is_either a b q ≡ true → T (mentioned (a ∷ b ∷ []) q)
either_mentioned a b q h = on (same_text q a) (same_text q b) h
  where
    on : (x y : Bool) → (x || y) ≡ true → T (x || (y || false))
    on true y k = tt
    on false true k = tt
    on false false k = absurd cc

both_first : (a b : Bool) → T (a && b) → T a
both_first true b h = tt
both_first false b h = absurd h

both_second : (a b : Bool) → T (a && b) → T b
both_second true b h = h
both_second false b h = absurd h

not_true : (b : Bool) → T (not b) → T b → ⊥
not_true true h k = h
not_true false h k = k

-- the first body ends before the last one does
first_before : (xs : List (Flat Maker)) (at : ℕ) (es : List ℕ) (bs : Bodies Maker) → StandBodies xs at es bs → (t : ℕ) (rest : List ℕ) → es ≡ t ∷ rest → t ≤ last_end t rest
first_before xs at es no_bodies s t rest is = absurd cc
first_before xs at es (body f bs) (e, more, eq, here, there) t rest is =
    let same : e ≡ t = cc in
    let others : more ≡ rest = cc in
    subst (λ m. m ≤ last_end m rest) same (subst (λ l. e ≤ last_end e l) others (StandBodies-le xs e more bs there))

module _ (xs : List (Flat Maker)) (end p i : ℕ) (q : Text) where
  -- a node binds names up to the end of its body at most
  self_until : (n : Node) (bs : Bodies Maker) → StandBodies xs (p + 1) (flat_of n).ends bs → last_end (p + 1) (flat_of n).ends ≤ end → BindsIn n end i q → i < end
  self_until (Assign name chain) bs s le b = b.1
  self_until (Increment name) bs s le b = b.1
  self_until (Decrement name) bs s le b = b.1
  self_until (Capture name last) bs s le b = b.1.1
  self_until (For f ends) bs s le b = omega (arith, b.1, le, first_before xs (p + 1) (ends.first_end ∷ ends.last_end ∷ []) bs s ends.first_end (ends.last_end ∷ []) refl)
  self_until (TableRow r last) bs s le b = omega (arith, b.1, le)
  self_until (Plain t) bs s le b = absurd b
  self_until (Output chain) bs s le b = absurd b
  self_until (Raw t) bs s le b = absurd b
  self_until Comment bs s le b = absurd b
  self_until (If condition ends) bs s le b = absurd b
  self_until (Unless condition ends) bs s le b = absurd b
  self_until (Case target arms last) bs s le b = absurd b
  self_until Break bs s le b = absurd b
  self_until Continue bs s le b = absurd b
  self_until (Cycle group values) bs s le b = absurd b
  self_until (IfChanged last) bs s le b = absurd b
  self_until (Filtered filters last) bs s le b = absurd b
  self_until (Include name pairs) bs s le b = absurd b
  self_until (JekyllInclude name pairs) bs s le b = absurd b
  self_until (Render name pairs) bs s le b = absurd b
  self_until (RenderEach name each pairs) bs s le b = absurd b

  -- in its own bodies it is a loop, and binds its names in the first one
  self_inside : (n : Node) → p < i → i < last_end (p + 1) (flat_of n).ends → BindsIn n end i q → T (mentioned (loop_names n) q) × (i < first_end (p + 1) (flat_of n).ends)
  self_inside (Assign name chain) lt le b = absurd (omega (arith, lt, le))
  self_inside (Increment name) lt le b = absurd (omega (arith, lt, le))
  self_inside (Decrement name) lt le b = absurd (omega (arith, lt, le))
  self_inside (Capture name last) lt le b = absurd (omega (arith, le, b.1.0))
  self_inside (For f ends) lt le b = (either_mentioned (codes "forloop") (string_bytes f.value.variable) q b.0, b.1)
  self_inside (TableRow r last) lt le b = (either_mentioned (codes "tablerow") (string_bytes r.value.variable) q b.0, b.1)
  self_inside (Plain t) lt le b = absurd b
  self_inside (Output chain) lt le b = absurd b
  self_inside (Raw t) lt le b = absurd b
  self_inside Comment lt le b = absurd b
  self_inside (If condition ends) lt le b = absurd b
  self_inside (Unless condition ends) lt le b = absurd b
  self_inside (Case target arms last) lt le b = absurd b
  self_inside Break lt le b = absurd b
  self_inside Continue lt le b = absurd b
  self_inside (Cycle group values) lt le b = absurd b
  self_inside (IfChanged last) lt le b = absurd b
  self_inside (Filtered filters last) lt le b = absurd b
  self_inside (Include name pairs) lt le b = absurd b
  self_inside (JekyllInclude name pairs) lt le b = absurd b
  self_inside (Render name pairs) lt le b = absurd b
  self_inside (RenderEach name each pairs) lt le b = absurd b

  captured : (name : Text) (last : ℕ) (bs : Bodies Maker) → StandBodies xs (p + 1) (last ∷ []) bs → same_text q name ≡ true → T (binds (with_one (tree.capture name) (bodies_of bs)) q)
  captured name last no_bodies s is = absurd cc
  captured name last (body f no_bodies) s is = truly (same_text q name) is
  captured name last (body f (body g bs)) (e, more, eq, here, (e', more', eq', here', there)) is = absurd cc

  -- after them it binds its name for what follows
  self_after : (n : Node) (bs : Bodies Maker) → StandBodies xs (p + 1) (flat_of n).ends bs → last_end (p + 1) (flat_of n).ends ≤ i → BindsIn n end i q → T (binds ((flat_of n).head (bodies_of bs)) q)
  self_after (Assign name chain) bs s le b = truly (same_text q (string_bytes name)) b.0
  self_after (Increment name) bs s le b = truly (same_text q (string_bytes name)) b.0
  self_after (Decrement name) bs s le b = truly (same_text q (string_bytes name)) b.0
  self_after (Capture name last) bs s le b = captured (string_bytes name) last bs s b.0
  self_after (For f ends) bs s le b = absurd (omega (arith, b.1, le, first_before xs (p + 1) (ends.first_end ∷ ends.last_end ∷ []) bs s ends.first_end (ends.last_end ∷ []) refl))
  self_after (TableRow r last) bs s le b = absurd (omega (arith, b.1, le))
  self_after (Plain t) bs s le b = absurd b
  self_after (Output chain) bs s le b = absurd b
  self_after (Raw t) bs s le b = absurd b
  self_after Comment bs s le b = absurd b
  self_after (If condition ends) bs s le b = absurd b
  self_after (Unless condition ends) bs s le b = absurd b
  self_after (Case target arms last) bs s le b = absurd b
  self_after Break bs s le b = absurd b
  self_after Continue bs s le b = absurd b
  self_after (Cycle group values) bs s le b = absurd b
  self_after (IfChanged last) bs s le b = absurd b
  self_after (Filtered filters last) bs s le b = absurd b
  self_after (Include name pairs) bs s le b = absurd b
  self_after (JekyllInclude name pairs) bs s le b = absurd b
  self_after (Render name pairs) bs s le b = absurd b
  self_after (RenderEach name each pairs) bs s le b = absurd b

-- ---- ranges of the list

-- the first body that isn't empty, or the rest, stands where A says
ends_is : (A : List ℕ) (s e : ℕ) → ends_at A s e ≡ true → s < e → end_at A s ≡ e
ends_is A s e h lt = on (nat_eq s e) refl (nat_eq (end_at A s) e) refl h
  where
    on : (b : Bool) → nat_eq s e ≡ b → (c : Bool) → nat_eq (end_at A s) e ≡ c → (b || c) ≡ true → end_at A s ≡ e
    on true is c at k = absurd (omega (arith, lt, eqb-true s e is))
    on false is true at k = eqb-true (end_at A s) e at
    on false is false at k = absurd cc

node_there : (ns : List Node) (k : ℕ) (x : Flat Maker) → slice_get (flats ns) k ≡ Some x → (n : Node) × (slice_get ns k ≡ Some n) × (flat_of n ≡ x)
node_there ns k x is = on (slice_get ns k) refl (sym (slice_get-map flat_of ns k) ∙ is)
  where
    on : (o : Option Node) → slice_get ns k ≡ o → option_map flat_of o ≡ Some x → (n : Node) × (slice_get ns k ≡ Some n) × (flat_of n ≡ x)
    on None there e = absurd cc
    on (Some n) there e = (n, there, cc)

same_node : (m n : Node) → Some m ≡ Some n → m ≡ n
same_node m n e = cc

module _ (R : PartialsRead) (F : Names) (ns : List Node) (A : List ℕ) (scoped : AreScoped R F ns A) (q : Text) where
  -- bound from outside at an index of these
  abbrev Outer : ℕ → ℕ → Type 0
  Outer at to = (p i : ℕ) × (n : Node) × (slice_get ns p ≡ Some n) × (p < at) × (at ≤ i) × (i < to) × BindsIn n (end_at A p) i q

  data Seen (at to : ℕ) : Type 0 where
    free_there : T (F q) → Seen at to
    outer : Outer at to → Seen at to

  mutual
    inside_forest : (at : ℕ) (f : Forest Maker) (to : ℕ) → IsLaidOut (flats ns) at f to → ends_at A at to ≡ true
        → (p i : ℕ) (n : Node) → at ≤ p → p < to → slice_get ns p ≡ Some n → BindsIn n (end_at A p) i q → i < to
    inside_forest at empty to s ends p i n from until there b = absurd (omega arith)
    inside_forest at (node h bs rest) to (x, is, eq, inner, after) ends p i n from until there b =
        let (m, here, same) = node_there ns at x is in
        let stand = subst (λ y. StandBodies (flats ns) (at + 1) y.ends bs) (sym same) inner in
        let follow = subst (λ y. IsLaidOut (flats ns) (last_end (at + 1) y.ends) rest to) (sym same) after in
        let hold = scoped.ends at m here in
        let last = StandBodies-le (flats ns) (at + 1) (flat_of m).ends bs stand in
        let most = Stands-le (flats ns) (last_end (at + 1) (flat_of m).ends) rest to follow in
        let own : end_at A at ≡ to = ends_is A at to ends (omega (arith, last, most)) in
        within at p
        (λ gt. within p (last_end (at + 1) (flat_of m).ends)
        (λ lt. let k = inside_bodies (at + 1) (flat_of m).ends bs stand (and_first _ _ hold) p i n (omega (arith, gt)) lt there b in omega (arith, k, most))
        (λ ge. inside_forest (last_end (at + 1) (flat_of m).ends) rest to follow (subst (λ e. ends_at A (last_end (at + 1) (flat_of m).ends) e ≡ true) own (and_second _ _ hold)) p i n ge until there b))
        (λ le. let e : p ≡ at = omega (arith, le, from) in
        let z : m ≡ n = same_node m n (sym here ∙ ap (slice_get ns) (sym e) ∙ there) in
        self_until (flats ns) to at i q m bs stand most (subst (λ w. BindsIn w to i q) (sym z) (subst (λ d. BindsIn n d i q) own (subst (λ a. BindsIn n (end_at A a) i q) e b))))

    inside_bodies : (at : ℕ) (es : List ℕ) (bs : Bodies Maker) → StandBodies (flats ns) at es bs → bodies_end A at es ≡ true
        → (p i : ℕ) (n : Node) → at ≤ p → p < last_end at es → slice_get ns p ≡ Some n → BindsIn n (end_at A p) i q → i < last_end at es
    inside_bodies at es no_bodies s ends p i n from until there b = let u : p < at = subst (λ l. p < last_end at l) s until in absurd (omega (arith, u, from))
    inside_bodies at es (body f bs) (e, rest, eq, here, more) ends p i n from until there b =
        let hold = subst (λ l. bodies_end A at l ≡ true) eq ends in
        let le = StandBodies-le (flats ns) e rest bs more in
        let u : p < last_end e rest = subst (λ l. p < last_end at l) eq until in
        subst (λ l. i < last_end at l) (sym eq)
        (within p e
        (λ lt. let k = inside_forest at f e here (and_first _ _ hold) p i n from lt there b in omega (arith, k, le))
        (λ ge. inside_bodies e rest bs more (and_second _ _ hold) p i n ge u there b))

  -- ---- what is read

  -- bound from outside at an index of bodies, but by no loop of theirs in the first one
  abbrev OuterOf : List Text → ℕ → List ℕ → Type 0
  OuterOf names at es = (p i : ℕ) × (n : Node) × (slice_get ns p ≡ Some n) × (p < at) × (at ≤ i) × (i < last_end at es) × BindsIn n (end_at A p) i q × (i < first_end at es → T (mentioned names q) → ⊥)

  data SeenOf (names : List Text) (at : ℕ) (es : List ℕ) : Type 0 where
    free_in : T (F q) → SeenOf names at es
    outer_of : OuterOf names at es → SeenOf names at es

  -- ---- from one range to another

  of_visible : (at to : ℕ) → at < to → Visible F ns A at q → Seen at to
  of_visible at to lt (free f) = free_there f
  of_visible at to lt (bound p n there before b) = outer (p, at, n, there, before, omega arith, lt, b)

  of_bodies : (at to : ℕ) (m : Node) → slice_get ns at ≡ Some m → last_end (at + 1) (flat_of m).ends ≤ to → SeenOf (loop_names m) (at + 1) (flat_of m).ends → Seen at to
  of_bodies at to m here most (free_in f) = free_there f
  of_bodies at to m here most (outer_of (p, i, n, there, before, from, until, b, unnamed)) = within p at
      (λ lt. outer (p, i, n, there, lt, omega (arith, from), omega (arith, until, most), b))
      (λ ge. let e : p ≡ at = omega (arith, ge, before) in
      let z : m ≡ n = same_node m n (sym here ∙ ap (slice_get ns) (sym e) ∙ there) in
      let k = self_inside (flats ns) (end_at A p) at i q m (omega (arith, from)) until (subst (λ w. BindsIn w (end_at A p) i q) (sym z) b) in
      absurd (unnamed k.1 k.0))

  of_rest : (at to : ℕ) (m : Node) (bs : Bodies Maker) → slice_get ns at ≡ Some m → StandBodies (flats ns) (at + 1) (flat_of m).ends bs → at + 1 ≤ last_end (at + 1) (flat_of m).ends
      → bodies_end A (at + 1) (flat_of m).ends ≡ true → T (not (binds ((flat_of m).head (bodies_of bs)) q)) → Seen (last_end (at + 1) (flat_of m).ends) to → Seen at to
  of_rest at to m bs here stand last hold not_bound (free_there f) = free_there f
  of_rest at to m bs here stand last hold not_bound (outer (p, i, n, there, before, from, until, b)) = within at p
      (λ gt. let k = inside_bodies (at + 1) (flat_of m).ends bs stand hold p i n (omega (arith, gt)) before there b in absurd (omega (arith, k, from)))
      (λ le. within p at
      (λ lt. outer (p, i, n, there, lt, omega (arith, from, last), until, b))
      (λ ge. let e : p ≡ at = omega (arith, ge, le) in
      let z : m ≡ n = same_node m n (sym here ∙ ap (slice_get ns) (sym e) ∙ there) in
      absurd (not_true _ not_bound (self_after (flats ns) (end_at A p) at i q m bs stand from (subst (λ w. BindsIn w (end_at A p) i q) (sym z) b)))))

  first_seen : (names : List Text) (at e : ℕ) (rest : List ℕ) → e ≤ last_end e rest → T (not (mentioned names q)) → Seen at e → SeenOf names at (e ∷ rest)
  first_seen names at e rest le unnamed (free_there f) = free_in f
  first_seen names at e rest le unnamed (outer (p, i, n, there, before, from, until, b)) = outer_of (p, i, n, there, before, from, omega (arith, until, le), b, (λ lt named. not_true _ unnamed named))

  later_seen : (names : List Text) (at e : ℕ) (rest : List ℕ) (f : Forest Maker) → IsLaidOut (flats ns) at f e → ends_at A at e ≡ true → Seen e (last_end e rest) → SeenOf names at (e ∷ rest)
  later_seen names at e rest f here hold (free_there g) = free_in g
  later_seen names at e rest f here hold (outer (p, i, n, there, before, from, until, b)) = within p at
      (λ lt. outer_of (p, i, n, there, lt, omega (arith, from, Stands-le (flats ns) at f e here), until, b, (λ lt named. omega (arith, lt, from))))
      (λ ge. let k = inside_forest at f e here hold p i n ge before there b in absurd (omega (arith, k, from)))

  widened : (at e to : ℕ) → e ≤ to → Seen at e → Seen at to
  widened at e to le (free_there f) = free_there f
  widened at e to le (outer (p, i, n, there, before, from, until, b)) = outer (p, i, n, there, before, from, omega (arith, until, le), b)

  earlier : (at e to : ℕ) (f : Forest Maker) → IsLaidOut (flats ns) at f e → ends_at A at e ≡ true → Seen e to → Seen at to
  earlier at e to f here hold (free_there g) = free_there g
  earlier at e to f here hold (outer (p, i, n, there, before, from, until, b)) = within p at
      (λ lt. outer (p, i, n, there, lt, omega (arith, from, Stands-le (flats ns) at f e here), until, b))
      (λ ge. let k = inside_forest at f e here hold p i n ge before there b in absurd (omega (arith, k, from)))

  mutual
    unfolding nodes_reads

    forest_seen : (at : ℕ) (f : Forest Maker) (to : ℕ) → IsLaidOut (flats ns) at f to → ends_at A at to ≡ true → T (nodes_reads R (nodes_of f) q) → Seen at to
    forest_seen at empty to s ends h = absurd h
    forest_seen at (node h bs rest) to (x, is, eq, inner, after) ends reads =
        let (m, here, same) = node_there ns at x is in
        let stand = subst (λ y. StandBodies (flats ns) (at + 1) y.ends bs) (sym same) inner in
        let follow = subst (λ y. IsLaidOut (flats ns) (last_end (at + 1) y.ends) rest to) (sym same) after in
        let head : h ≡ (flat_of m).head = sym eq ∙ ap (λ y. y.head) (sym same) in
        let hold = scoped.ends at m here in
        let last = StandBodies-le (flats ns) (at + 1) (flat_of m).ends bs stand in
        let most = Stands-le (flats ns) (last_end (at + 1) (flat_of m).ends) rest to follow in
        let own : end_at A at ≡ to = ends_is A at to ends (omega (arith, last, most)) in
        let r = subst (λ k. T (node_reads R (k (bodies_of bs)) q || (not (binds (k (bodies_of bs)) q) && nodes_reads R (nodes_of rest) q))) head reads in
        either (node_reads R ((flat_of m).head (bodies_of bs)) q) _ r
        (λ t. either (own_reads R m q) _ (node_split R q m (bodies_of bs) t)
        (λ o. of_visible at to (omega (arith, last, most)) (scoped.reads at m here q o))
        (λ o. of_bodies at to m here most (bodies_seen (loop_names m) (at + 1) (flat_of m).ends bs stand (and_first _ _ hold) o)))
        (λ t. of_rest at to m bs here stand last (and_first _ _ hold) (both_first _ _ t)
        (forest_seen (last_end (at + 1) (flat_of m).ends) rest to follow (subst (λ e. ends_at A (last_end (at + 1) (flat_of m).ends) e ≡ true) own (and_second _ _ hold)) (both_second _ _ t)))

    bodies_seen : (names : List Text) (at : ℕ) (es : List ℕ) (bs : Bodies Maker) → StandBodies (flats ns) at es bs → bodies_end A at es ≡ true → T (inner_reads R names (bodies_of bs) q) → SeenOf names at es
    bodies_seen names at es no_bodies s ends h = absurd h
    bodies_seen names at es (body f bs) (e, rest, eq, here, more) ends h =
        let hold = subst (λ l. bodies_end A at l ≡ true) eq ends in
        subst (SeenOf names at) (sym eq)
        (either (unbound names (nodes_reads R (nodes_of f)) q) _ h
        (λ t. first_seen names at e rest (StandBodies-le (flats ns) e rest bs more) (both_first _ _ t) (forest_seen at f e here (and_first _ _ hold) (both_second _ _ t)))
        (λ t. later_seen names at e rest f here (and_first _ _ hold) (others_seen e rest bs more (and_second _ _ hold) t)))

    others_seen : (at : ℕ) (es : List ℕ) (bs : Bodies Maker) → StandBodies (flats ns) at es bs → bodies_end A at es ≡ true → T (any_reads R (bodies_of bs) q) → Seen at (last_end at es)
    others_seen at es no_bodies s ends h = absurd h
    others_seen at es (body f bs) (e, rest, eq, here, more) ends h =
        let hold = subst (λ l. bodies_end A at l ≡ true) eq ends in
        subst (λ l. Seen at (last_end at l)) (sym eq)
        (either (nodes_reads R (nodes_of f) q) _ h
        (λ t. widened at e (last_end e rest) (StandBodies-le (flats ns) e rest bs more) (forest_seen at f e here (and_first _ _ hold) t))
        (λ t. earlier at e (last_end e rest) f here (and_first _ _ hold) (others_seen e rest bs more (and_second _ _ hold) t)))

-- ---- a template

none_outside : (R : PartialsRead) (F : Names) (ns : List Node) (A : List ℕ) (scoped : AreScoped R F ns A) (q : Text) (to : ℕ) → Seen R F ns A scoped q 0 to → T (F q)
none_outside R F ns A scoped q to (free_there f) = f
none_outside R F ns A scoped q to (outer (p, i, n, there, before, from, until, b)) = absurd (omega (arith, before))

-- what the tree reads freely is one of F
pub template_reads : (R : PartialsRead) (F : Names) (t : Template) (A : List ℕ) → AreScoped R F (template_nodes t) A → (q : Text) → T (nodes_reads R (tree_of t) q) → T (F q)
template_reads R F t A scoped q h =
    none_outside R F (template_nodes t) A scoped q (length (template_nodes t))
    (forest_seen R F (template_nodes t) A scoped q 0 (forest_of t) (length (template_nodes t)) (template_stands t) scoped.start (subst (λ ns. T (nodes_reads R ns q)) (tree_is t) h))
