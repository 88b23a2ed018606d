-- The tree of a list whose blanks are emptied is the tree without blanks.
use Rattle.std.proofs.Common.{◌≡◌, ℕ, ◌+◌, Bool, true, false, cond, ◌&&◌, List, [], ◌∷◌, ◌++◌, length, map, option_map, nat_eq, string_bytes, refl, sym, ap, ◌∙◌}
use Rattle.liquid_core.specs.ExpressionView.{expression_view}
use Rattle.liquid_evaluation.specs.Tree as tree
use Rattle.liquid_evaluation.specs.ChainView.{chain_filter_view}
use Rattle.liquid_evaluation.specs.ConditionView.{condition_view}
use Rattle.liquid_evaluation.specs.SourceView.{source_view}
use Rattle.liquid_syntax.specs.Blanks.{is_blank_text, is_no_nodes, writes_nothing, write_nothing, whens_write_nothing, node_without, nodes_without, whens_without}
use Rattle.liquid_syntax.specs.Flats.{Maker, arm_values, arm_ends, flat_of, nodes_of, bodies_of, window_view, with_arms}
use Rattle.liquid_syntax.specs.Forest.{Forest, Bodies, empty, node, no_bodies, body}
use Rattle.liquid_syntax.specs.declared.node.Arm.{Arm}
use Rattle.liquid_syntax.specs.declared.node.Node.{Node}
use Rattle.liquid_syntax.specs.declared.node.Node.TheVariants.{Text as Plain, Output, Assign, Raw, Comment, If, Unless, Capture, Case, For, TableRow, Break, Continue, Increment, Decrement, Cycle, IfChanged, Filtered, Include, JekyllInclude, Render, RenderEach}
use Rattle.liquid_syntax.specs.inside.BlankNodes.{cleared, drops, is_empty, is_heard_as, is_if, is_no_bodies, is_silent, quiet, quiet_bodies, sound_of, text_sound, tidied, tidied_bodies}

-- ---- the same forest, of makers

abbrev mutual
  pub made : Forest Node → Forest Maker
  made empty = empty
  made (node n bs rest) = node (flat_of n).head (made_bodies bs) (made rest)

  pub made_bodies : Bodies Node → Bodies Maker
  made_bodies no_bodies = no_bodies
  made_bodies (body f bs) = body (made f) (made_bodies bs)

-- ---- what a node writes, by its bodies

-- all bodies write nothing
all_silent : List tree.Nodes → Bool
all_silent [] = true
all_silent (b ∷ bs) = write_nothing b && all_silent bs

is_last : List tree.Nodes → Bool
is_last [] = true
is_last (b ∷ bs) = false

-- the bodies without blanks; the last may be that of an `elsif` where chained is true
all_without : Bool → Bool → List tree.Nodes → List tree.Nodes
all_without silent chained [] = []
all_without silent chained (b ∷ bs) = nodes_without silent (chained && is_last bs) b ∷ all_without silent chained bs

and_true : (b : Bool) → (b && true) ≡ b
and_true true = refl
and_true false = refl

text_is : (b : Bool) (s : Bool) → is_heard_as (text_sound b) s ≡ b
text_is true s = refl
text_is false s = refl

-- as many bodies as the node has ends
IsWhole : Node → List tree.Nodes → Type 0
IsWhole n bodies = length bodies ≡ length (flat_of n).ends

-- ---- the `when` parts of a `case`

-- the parts and the nodes of `else` that these bodies make, and what they are without blanks
record IsKnown (arms : List Arm) (bodies : List tree.Nodes) : Type 0 where
  whens : tree.Whens
  others : tree.Nodes
  made : (make : tree.Whens → tree.Nodes → tree.Node) → with_arms make (arm_values arms) bodies ≡ make whens others
  silent : all_silent bodies ≡ (whens_write_nothing whens && write_nothing others)
  tidy : (s : Bool) (make : tree.Whens → tree.Nodes → tree.Node) → with_arms make (arm_values arms) (all_without s false bodies) ≡ make (whens_without s whens) (nodes_without s false others)

grouped : (x y w : Bool) → (x && (y && w)) ≡ ((x && y) && w)
grouped true y w = refl
grouped false y w = refl

known : (arms : List Arm) (z : ℕ) (bodies : List tree.Nodes) → length bodies ≡ length (arm_ends arms ++ z ∷ []) → IsKnown arms bodies
unfolding all_silent all_without is_last
known [] z [] h = absurd cc
known [] z (o ∷ []) h = record { whens = tree.no_whens; others = o; made = λ make. refl; silent = and_true (write_nothing o); tidy = λ s make. refl }
known [] z (o ∷ p ∷ bs) h = absurd cc
known (arm ∷ arms) z [] h = absurd cc
known (arm ∷ arms) z (b ∷ bs) h =
    let left : length bs ≡ length (arm_ends arms ++ z ∷ []) = cc in
    let k = known arms z bs left in
    let vs = map expression_view arm.values.items in
    record {
      whens = tree.when vs b k.whens;
      others = k.others;
      made = λ make. k.made (λ ws o. make (tree.when vs b ws) o);
      silent = ap (λ x. write_nothing b && x) k.silent ∙ grouped (write_nothing b) (whens_write_nothing k.whens) (write_nothing k.others);
      tidy = λ s make. k.tidy s (λ ws o. make (tree.when vs (nodes_without s false b) ws) o);
    }

-- ---- one node

writes_is : (n : Node) (bodies : List tree.Nodes) → IsWhole n bodies → writes_nothing ((flat_of n).head bodies) ≡ is_heard_as (sound_of n) (all_silent bodies)
unfolding all_silent IsWhole
writes_is (Plain t) bodies h = sym (text_is (is_blank_text (string_bytes t)) (all_silent bodies))
writes_is (Output chain) bodies h = refl
writes_is (Assign name chain) bodies h = refl
writes_is (Raw t) bodies h = sym (text_is (nat_eq (length (string_bytes t)) 0) (all_silent bodies))
writes_is Comment bodies h = refl
writes_is (If condition ends) (b ∷ e ∷ []) h = ap (λ x. write_nothing b && x) (sym (and_true (write_nothing e)))
writes_is (If condition ends) [] h = absurd cc
writes_is (If condition ends) (b ∷ []) h = absurd cc
writes_is (If condition ends) (b ∷ e ∷ g ∷ bs) h = absurd cc
writes_is (Unless condition ends) (b ∷ e ∷ []) h = ap (λ x. write_nothing b && x) (sym (and_true (write_nothing e)))
writes_is (Unless condition ends) [] h = absurd cc
writes_is (Unless condition ends) (b ∷ []) h = absurd cc
writes_is (Unless condition ends) (b ∷ e ∷ g ∷ bs) h = absurd cc
writes_is (Capture name end) (b ∷ []) h = refl
writes_is (Capture name end) [] h = absurd cc
writes_is (Capture name end) (b ∷ e ∷ bs) h = absurd cc
writes_is (Case target arms end) bodies h =
    let k = known arms.items end bodies h in
    let make : tree.Whens → tree.Nodes → tree.Node = λ ws o. tree.case_of (expression_view target) ws o in
    ap writes_nothing (k.made make) ∙ sym k.silent
writes_is (For f ends) (b ∷ e ∷ []) h = ap (λ x. write_nothing b && x) (sym (and_true (write_nothing e)))
writes_is (For f ends) [] h = absurd cc
writes_is (For f ends) (b ∷ []) h = absurd cc
writes_is (For f ends) (b ∷ e ∷ g ∷ bs) h = absurd cc
writes_is (TableRow r end) (b ∷ []) h = sym (and_true (write_nothing b))
writes_is (TableRow r end) [] h = absurd cc
writes_is (TableRow r end) (b ∷ e ∷ bs) h = absurd cc
writes_is Break bodies h = refl
writes_is Continue bodies h = refl
writes_is (Increment name) bodies h = refl
writes_is (Decrement name) bodies h = refl
writes_is (Cycle group values) bodies h = refl
writes_is (IfChanged end) (b ∷ []) h = sym (and_true (write_nothing b))
writes_is (IfChanged end) [] h = absurd cc
writes_is (IfChanged end) (b ∷ e ∷ bs) h = absurd cc
writes_is (Filtered filters end) (b ∷ []) h = refl
writes_is (Filtered filters end) [] h = absurd cc
writes_is (Filtered filters end) (b ∷ e ∷ bs) h = absurd cc
writes_is (Include name pairs) bodies h = refl
writes_is (JekyllInclude name pairs) bodies h = refl
writes_is (Render name pairs) bodies h = refl
writes_is (RenderEach name each pairs) bodies h = refl

two_silent : (b e : tree.Nodes) → (write_nothing b && write_nothing e) ≡ (write_nothing b && (write_nothing e && true))
two_silent b e = ap (λ x. write_nothing b && x) (sym (and_true (write_nothing e)))

-- what isn't an `if` is no `elsif`
not_taken : (drop taken s : Bool) → s ≡ cond (taken && false) drop s
not_taken drop true s = refl
not_taken drop false s = refl

without_is : (drop taken : Bool) (n : Node) (bodies : List tree.Nodes) → IsWhole n bodies → node_without drop taken ((flat_of n).head bodies) ≡ cleared drop n (all_without (cond (taken && is_if n) drop (drops n && all_silent bodies)) (is_if n) bodies)
unfolding all_silent all_without is_last IsWhole
without_is drop taken (Plain t) bodies h = refl
without_is drop taken (Output chain) bodies h = refl
without_is drop taken (Assign name chain) bodies h = refl
without_is drop taken (Raw t) bodies h = refl
without_is drop taken Comment bodies h = refl
without_is drop taken (If condition ends) (b ∷ e ∷ []) h =
    ap (λ s. tree.if_true (condition_view condition) (nodes_without s false b) (nodes_without s true e)) (ap (λ w. cond taken drop w) (two_silent b e) ∙ ap (λ t. cond t drop (write_nothing b && (write_nothing e && true))) (sym (and_true taken)))
without_is drop taken (If condition ends) [] h = absurd cc
without_is drop taken (If condition ends) (b ∷ []) h = absurd cc
without_is drop taken (If condition ends) (b ∷ e ∷ g ∷ bs) h = absurd cc
without_is drop taken (Unless condition ends) (b ∷ e ∷ []) h =
    ap (λ s. tree.unless (condition_view condition) (nodes_without s false b) (nodes_without s false e)) (two_silent b e ∙ not_taken drop taken (write_nothing b && (write_nothing e && true)))
without_is drop taken (Unless condition ends) [] h = absurd cc
without_is drop taken (Unless condition ends) (b ∷ []) h = absurd cc
without_is drop taken (Unless condition ends) (b ∷ e ∷ g ∷ bs) h = absurd cc
without_is drop taken (Capture name end) (b ∷ []) h = ap (λ s. tree.capture (string_bytes name) (nodes_without s false b)) (not_taken drop taken false)
without_is drop taken (Capture name end) [] h = absurd cc
without_is drop taken (Capture name end) (b ∷ e ∷ bs) h = absurd cc
without_is drop taken (Case target arms end) bodies h =
    let k = known arms.items end bodies h in
    let make : tree.Whens → tree.Nodes → tree.Node = λ ws o. tree.case_of (expression_view target) ws o in
    ap (node_without drop taken) (k.made make) ∙ ap (λ s. tree.case_of (expression_view target) (whens_without s k.whens) (nodes_without s false k.others)) (sym k.silent ∙ not_taken drop taken (all_silent bodies)) ∙ sym (k.tidy (cond (taken && false) drop (all_silent bodies)) make)
without_is drop taken (For f ends) (b ∷ e ∷ []) h =
    ap (λ s. tree.for_each (string_bytes f.value.variable) (source_view f.value.source) (window_view f.value.window) (nodes_without s false b) (nodes_without s false e)) (two_silent b e ∙ not_taken drop taken (write_nothing b && (write_nothing e && true)))
without_is drop taken (For f ends) [] h = absurd cc
without_is drop taken (For f ends) (b ∷ []) h = absurd cc
without_is drop taken (For f ends) (b ∷ e ∷ g ∷ bs) h = absurd cc
without_is drop taken (TableRow r end) (b ∷ []) h =
    ap (λ s. tree.tablerow (string_bytes r.value.variable) (source_view r.value.source) (window_view r.value.window) (option_map expression_view r.value.cols) (nodes_without s false b)) (not_taken drop taken false)
without_is drop taken (TableRow r end) [] h = absurd cc
without_is drop taken (TableRow r end) (b ∷ e ∷ bs) h = absurd cc
without_is drop taken Break bodies h = refl
without_is drop taken Continue bodies h = refl
without_is drop taken (Increment name) bodies h = refl
without_is drop taken (Decrement name) bodies h = refl
without_is drop taken (Cycle group values) bodies h = refl
without_is drop taken (IfChanged end) (b ∷ []) h = ap (λ s. tree.ifchanged (nodes_without s false b)) (not_taken drop taken false)
without_is drop taken (IfChanged end) [] h = absurd cc
without_is drop taken (IfChanged end) (b ∷ e ∷ bs) h = absurd cc
without_is drop taken (Filtered filters end) (b ∷ []) h =
    ap (λ s. tree.filtered (map chain_filter_view filters.items) (nodes_without s false b)) (not_taken drop taken false)
without_is drop taken (Filtered filters end) [] h = absurd cc
without_is drop taken (Filtered filters end) (b ∷ e ∷ bs) h = absurd cc
without_is drop taken (Include name pairs) bodies h = refl
without_is drop taken (JekyllInclude name pairs) bodies h = refl
without_is drop taken (Render name pairs) bodies h = refl
without_is drop taken (RenderEach name each pairs) bodies h = refl

-- ---- forests

-- each node has as many bodies as it says where they end
abbrev mutual
  pub IsFit : Forest Node → Type 0
  IsFit empty = Unit {0}
  IsFit (node n bs rest) = (length (bodies_of (made_bodies bs)) ≡ length (flat_of n).ends) × AreFit bs × IsFit rest

  pub AreFit : Bodies Node → Type 0
  AreFit no_bodies = Unit {0}
  AreFit (body f bs) = IsFit f × AreFit bs

mutual
  unfolding all_silent IsWhole

  quiet_is : (f : Forest Node) → IsFit f → write_nothing (nodes_of (made f)) ≡ quiet f
  quiet_is empty fit = refl
  quiet_is (node n bs rest) fit =
      ap (λ b. b && write_nothing (nodes_of (made rest))) (writes_is n (bodies_of (made_bodies bs)) fit.0 ∙ ap (is_heard_as (sound_of n)) (silent_is bs fit.1))
      ∙ ap (λ b. is_heard_as (sound_of n) (quiet_bodies bs) && b) (quiet_is rest fit.2)

  silent_is : (bs : Bodies Node) → AreFit bs → all_silent (bodies_of (made_bodies bs)) ≡ quiet_bodies bs
  silent_is no_bodies fit = refl
  silent_is (body f bs) fit = ap (λ b. b && all_silent (bodies_of (made_bodies bs))) (quiet_is f fit.0) ∙ ap (λ b. quiet f && b) (silent_is bs fit.1)

no_nodes_is : (f : Forest Node) → is_no_nodes (nodes_of (made f)) ≡ is_empty f
no_nodes_is empty = refl
no_nodes_is (node n bs rest) = refl

last_is : (bs : Bodies Node) → is_last (bodies_of (made_bodies bs)) ≡ is_no_bodies bs
unfolding is_last
last_is no_bodies = refl
last_is (body f bs) = refl

taken_is : (a b c : Bool) → (a && (b && c)) ≡ ((a && c) && b)
taken_is true true true = refl
taken_is true true false = refl
taken_is true false true = refl
taken_is true false false = refl
taken_is false b c = refl

mutual
  unfolding all_without IsWhole

  pub tidy_is : (drop chained : Bool) (f : Forest Node) → IsFit f → nodes_of (tidied drop chained f) ≡ nodes_without drop chained (nodes_of (made f))
  tidy_is drop chained empty fit = refl
  tidy_is drop chained (node n bs rest) fit =
      let taken = chained && is_empty rest in
      let others = chained && is_no_nodes (nodes_of (made rest)) in
      let bodies = bodies_of (made_bodies bs) in
      let silent = is_silent drop (chained && (is_if n && is_empty rest)) n bs in
      let by_node : silent ≡ cond (taken && is_if n) drop (drops n && all_silent bodies) =
      ap (λ b. cond b drop (drops n && quiet_bodies bs)) (taken_is chained (is_if n) (is_empty rest)) ∙ ap (λ b. cond (taken && is_if n) drop (drops n && b)) (sym (silent_is bs fit.1)) in
      let here : cleared drop n (bodies_of (tidied_bodies silent (is_if n) bs)) ≡ node_without drop others ((flat_of n).head bodies) =
      ap (cleared drop n) (all_tidy silent (is_if n) bs fit.1) ∙ ap (λ b. cleared drop n (all_without b (is_if n) bodies)) by_node ∙ sym (without_is drop taken n bodies fit.0)
      ∙ ap (λ b. node_without drop (chained && b) ((flat_of n).head bodies)) (sym (no_nodes_is rest)) in
      ap (λ m. tree.node m (nodes_of (tidied drop false rest))) here ∙ ap (tree.node (node_without drop others ((flat_of n).head bodies))) (tidy_is drop false rest fit.2)

  all_tidy : (drop chained : Bool) (bs : Bodies Node) → AreFit bs → bodies_of (tidied_bodies drop chained bs) ≡ all_without drop chained (bodies_of (made_bodies bs))
  all_tidy drop chained no_bodies fit = refl
  all_tidy drop chained (body f bs) fit =
      ap (λ m. m ∷ bodies_of (tidied_bodies drop chained bs)) (tidy_is drop (chained && is_no_bodies bs) f fit.0 ∙ ap (λ b. nodes_without drop (chained && b) (nodes_of (made f))) (sym (last_is bs)))
      ∙ ap (λ l. nodes_without drop (chained && is_last (bodies_of (made_bodies bs))) (nodes_of (made f)) ∷ l) (all_tidy drop chained bs fit.1)
