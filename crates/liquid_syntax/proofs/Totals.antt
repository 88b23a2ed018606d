-- What the nodes of a tree come to together is what those of its list do, each without its bodies.
use Rattle.std.specs.Prelude.{◌≡◌, ℕ, suc, ◌+◌, List, [], ◌∷◌, ◌++◌, length, map, Option, Some, None, option_map, string_bytes}
use Rattle.std.specs.List.{AllByRecursion}
use Rattle.std.proofs.Common.{refl, sym, ap, subst, ◌∙◌}
use Rattle.std.proofs.lemmas.List.{length-map}
use Rattle.liquid_core.specs.Expression.{Expression}
use Rattle.liquid_core.specs.ExpressionView.{expression_view}
use Rattle.liquid_evaluation.specs.ChainView.{chain_filter_view, chain_view}
use Rattle.liquid_evaluation.specs.ConditionView.{condition_view}
use Rattle.liquid_evaluation.specs.SourceView.{source_view}
use Rattle.liquid_evaluation.specs.Tree as tree
use Rattle.liquid_model.specs.Texts.{Text}
use Rattle.liquid_syntax.specs.Forest.{Forest, Bodies, empty, node, no_bodies, body, forest_size, sizes}
use Rattle.liquid_syntax.specs.Laid.{Flat, laid, laid_bodies, ends_of}
use Rattle.liquid_syntax.specs.Flats.{Maker, leaf, one_body, two_bodies, case_flat, with_arms, values_in, arm_values, arm_ends, flat_of, flats, nodes_of, bodies_of, bindings_view, each_view, window_view}
use Rattle.liquid_syntax.specs.inside.OwnNodes.{own_node, own_nodes}
use Rattle.liquid_syntax.specs.Templates.{template_nodes, forest_of, tree_of}
use Rattle.liquid_syntax.specs.declared.node.Arm.{Arm}
use Rattle.liquid_syntax.specs.declared.node.Node.{Node}
use Rattle.liquid_syntax.specs.declared.node.Node.TheVariants.{Text as Plain, Output, Assign, Raw, Comment, If, Unless, Capture, Case, For, TableRow, Break, Continue, Increment, Decrement, Cycle, IfChanged, Filtered, Include, JekyllInclude, Render, RenderEach}
use Rattle.liquid_syntax.specs.declared.node.BodyEnds.{BodyEnds}
use Rattle.liquid_syntax.specs.declared.template.Template.{Template}
use Rattle.liquid_syntax.proofs.Whole.{template_laid, tree_is}

-- what nodes come to: a sum, in any order
pub record IsTotal {R : Type 0} (none : R) (plus : R → R → R) (of_node : tree.Node → R) (of_nodes : tree.Nodes → R) : Type 0 where
  pub left : (a : R) → plus none a ≡ a
  pub right : (a : R) → plus a none ≡ a
  pub grouped : (a b c : R) → plus (plus a b) c ≡ plus a (plus b c)
  pub swapped : (a b : R) → plus a b ≡ plus b a
  pub nothing : of_nodes tree.no_nodes ≡ none
  pub more : (n : tree.Node) (ns : tree.Nodes) → of_nodes (tree.node n ns) ≡ plus (of_node n) (of_nodes ns)

-- what a node with bodies comes to: itself, and its bodies
pub record Splits {R : Type 0} (none : R) (plus : R → R → R) (of_node : tree.Node → R) (of_nodes : tree.Nodes → R) : Type 0 where
  pub an_if : tree.Condition → R
  pub if_is : (c : tree.Condition) (b o : tree.Nodes) → of_node (tree.if_true c b o) ≡ plus (an_if c) (plus (of_nodes b) (of_nodes o))
  pub unless_is : (c : tree.Condition) (b o : tree.Nodes) → of_node (tree.unless c b o) ≡ plus (an_if c) (plus (of_nodes b) (of_nodes o))
  pub a_for : Text → tree.Source → tree.Window → R
  pub for_is : (v : Text) (s : tree.Source) (w : tree.Window) (b o : tree.Nodes) → of_node (tree.for_each v s w b o) ≡ plus (a_for v s w) (plus (of_nodes b) (of_nodes o))
  pub a_row : Text → tree.Source → tree.Window → Option Expression → R
  pub row_is : (v : Text) (s : tree.Source) (w : tree.Window) (c : Option Expression) (b : tree.Nodes) → of_node (tree.tablerow v s w c b) ≡ plus (a_row v s w c) (of_nodes b)
  pub a_capture : Text → R
  pub capture_is : (v : Text) (b : tree.Nodes) → of_node (tree.capture v b) ≡ plus (a_capture v) (of_nodes b)
  pub a_changed : R
  pub changed_is : (b : tree.Nodes) → of_node (tree.ifchanged b) ≡ plus a_changed (of_nodes b)
  pub a_filtered : List tree.FilterCall → R
  pub filtered_is : (f : List tree.FilterCall) (b : tree.Nodes) → of_node (tree.filtered f b) ≡ plus (a_filtered f) (of_nodes b)
  pub a_case : Expression → R
  pub of_whens : Expression → tree.Whens → R
  pub of_values : Expression → List Expression → R
  pub case_is : (t : Expression) (ws : tree.Whens) (o : tree.Nodes) → of_node (tree.case_of t ws o) ≡ plus (a_case t) (plus (of_whens t ws) (of_nodes o))
  pub no_when : (t : Expression) → of_whens t tree.no_whens ≡ none
  pub when_is : (t : Expression) (vs : List Expression) (b : tree.Nodes) (ws : tree.Whens) → of_whens t (tree.when vs b ws) ≡ plus (of_values t vs) (plus (of_nodes b) (of_whens t ws))

module _ {R : Type 0} (none : R) (plus : R → R → R) (of_node : tree.Node → R) (of_nodes : tree.Nodes → R) where
  -- of the bodies of a node
  pub total : List tree.Nodes → R
  total [] = none
  total (b ∷ bs) = plus (of_nodes b) (total bs)

  -- a node of the list comes to own, and to what its bodies do
  abbrev pub Makes : R → Flat Maker → Type 0
  Makes own x = (bodies : List tree.Nodes) → length bodies ≡ length x.ends → of_node (x.head bodies) ≡ plus own (total bodies)

  -- a node of the list with nothing in its bodies
  itself : Flat Maker → R
  itself x = of_node (x.head (map (λ e. tree.no_nodes) x.ends))

  all_themselves : List (Flat Maker) → R
  all_themselves [] = none
  all_themselves (x ∷ xs) = plus (itself x) (all_themselves xs)

  module _ (sum : IsTotal none plus of_node of_nodes) where
    -- ---- nodes of each shape

    pub leaf_makes : (own : R) (n : tree.Node) → of_node n ≡ own → Makes own (leaf n)
    unfolding total
    leaf_makes own n e [] h = e ∙ sym (sum.right own)
    leaf_makes own n e (b ∷ bs) h = absurd cc

    pub one_makes : (own : R) (make : tree.Nodes → tree.Node) (end : ℕ) → ((b : tree.Nodes) → of_node (make b) ≡ plus own (of_nodes b)) → Makes own (one_body make end)
    unfolding total
    one_makes own make end e (b ∷ []) h = e b ∙ ap (plus own) (sym (sum.right (of_nodes b)))
    one_makes own make end e [] h = absurd cc
    one_makes own make end e (b ∷ c ∷ bs) h = absurd cc

    pub two_makes : (own : R) (make : tree.Nodes → tree.Nodes → tree.Node) (ends : BodyEnds) → ((b c : tree.Nodes) → of_node (make b c) ≡ plus own (plus (of_nodes b) (of_nodes c))) → Makes own (two_bodies make ends)
    unfolding total
    two_makes own make ends e (b ∷ c ∷ []) h = e b c ∙ ap (λ r. plus own (plus (of_nodes b) r)) (sym (sum.right (of_nodes c)))
    two_makes own make ends e [] h = absurd cc
    two_makes own make ends e (b ∷ []) h = absurd cc
    two_makes own make ends e (b ∷ c ∷ d ∷ bs) h = absurd cc

    -- a `case`: its `when` parts come to their values and bodies
    module _ (of_whens : tree.Whens → R) (of_values : List Expression → R) (none_left : of_whens tree.no_whens ≡ none)
        (one_more : (vs : List Expression) (b : tree.Nodes) (ws : tree.Whens) → of_whens (tree.when vs b ws) ≡ plus (of_values vs) (plus (of_nodes b) (of_whens ws))) where
      unfoldable pub of_arms : List (List Expression) → R
      of_arms [] = none
      of_arms (vs ∷ vss) = plus (of_values vs) (of_arms vss)

      -- the values of a part and of those after it, then its body and those after it
      turned : (a v f e t : R) → plus (plus a (plus v f)) (plus e t) ≡ plus a (plus (plus v e) (plus f t))
      turned a v f e t =
          sum.grouped a (plus v f) (plus e t)
          ∙ ap (plus a) (
          sum.grouped v f (plus e t)
          ∙ ap (plus v) (sym (sum.grouped f e t) ∙ ap (λ r. plus r t) (sum.swapped f e) ∙ sum.grouped e f t ∙ refl)
          ∙ sym (sum.grouped v e (plus f t)))

      -- a part that is read already
      put_in : (a v f w o : R) → plus a (plus (plus v (plus f w)) o) ≡ plus (plus a (plus v f)) (plus w o)
      put_in a v f w o =
          ap (λ r. plus a (plus r o)) (sym (sum.grouped v f w))
          ∙ ap (plus a) (sum.grouped (plus v f) w o)
          ∙ sym (sum.grouped a (plus v f) (plus w o))

      arms_make : (a : R) (make : tree.Whens → tree.Nodes → tree.Node) → ((ws : tree.Whens) (o : tree.Nodes) → of_node (make ws o) ≡ plus a (plus (of_whens ws) (of_nodes o)))
          → (arms : List Arm) (z : ℕ) (bodies : List tree.Nodes) → length bodies ≡ length (arm_ends arms ++ z ∷ []) → of_node (with_arms make (arm_values arms) bodies) ≡ plus a (plus (of_arms (arm_values arms)) (total bodies))
      unfolding total of_arms
      arms_make a make e [] z (o ∷ []) h = e tree.no_whens o ∙ ap (plus a) (ap (λ r. plus r (of_nodes o)) none_left ∙ ap (plus none) (sym (sum.right (of_nodes o))))
      arms_make a make e [] z [] h = absurd cc
      arms_make a make e [] z (o ∷ p ∷ bs) h = absurd cc
      arms_make a make e (arm ∷ arms) z [] h = absurd cc
      arms_make a make e (arm ∷ arms) z (f ∷ fs) h =
          let v = of_values (values_in arm) in
          let left : length fs ≡ length (arm_ends arms ++ z ∷ []) = cc in
          arms_make (plus a (plus v (of_nodes f))) (λ ws o. make (tree.when (values_in arm) f ws) o)
          (λ ws o. e (tree.when (values_in arm) f ws) o ∙ ap (λ r. plus a (plus r (of_nodes o))) (one_more (values_in arm) f ws) ∙ put_in a v (of_nodes f) (of_whens ws) (of_nodes o))
          arms z fs left
          ∙ turned a v (of_nodes f) (of_arms (arm_values arms)) (total fs)

      pub case_makes : (own : R) (target : Expression) (arms : List Arm) (z : ℕ) → ((ws : tree.Whens) (o : tree.Nodes) → of_node (tree.case_of target ws o) ≡ plus own (plus (of_whens ws) (of_nodes o)))
          → Makes (plus own (of_arms (arm_values arms))) (case_flat target (arm_values arms) (arm_ends arms) z)
      case_makes own target arms z e bodies h =
          arms_make own (λ ws o. tree.case_of target ws o) e arms z bodies h ∙ sym (sum.grouped own (of_arms (arm_values arms)) (total bodies))

    -- ---- forests

    no_total : (es : List ℕ) → total (map (λ e. tree.no_nodes) es) ≡ none
    unfolding total
    no_total [] = refl
    no_total (e ∷ es) = ap (λ r. plus r (total (map (λ e. tree.no_nodes) es))) sum.nothing ∙ sum.left (total (map (λ e. tree.no_nodes) es)) ∙ no_total es

    itself_is : (own : R) (x : Flat Maker) → Makes own x → itself x ≡ own
    unfolding itself
    itself_is own x makes = makes (map (λ e. tree.no_nodes) x.ends) (length-map x.ends (λ e. tree.no_nodes)) ∙ ap (plus own) (no_total x.ends) ∙ sum.right own

    IsMade : Flat Maker → Type 0
    IsMade x = Makes (itself x) x

    is_made : (own : R) (x : Flat Maker) → Makes own x → IsMade x
    unfolding IsMade
    is_made own x makes = subst (λ r. Makes r x) (sym (itself_is own x makes)) makes

    all_left : (xs ys : List (Flat Maker)) → AllByRecursion IsMade (xs ++ ys) → AllByRecursion IsMade xs
    all_left [] ys h = tt
    all_left (x ∷ xs) ys h = (h.0, all_left xs ys h.1)

    all_right : (xs ys : List (Flat Maker)) → AllByRecursion IsMade (xs ++ ys) → AllByRecursion IsMade ys
    all_right [] ys h = h
    all_right (x ∷ xs) ys h = all_right xs ys h.1

    both_themselves : (xs ys : List (Flat Maker)) → all_themselves (xs ++ ys) ≡ plus (all_themselves xs) (all_themselves ys)
    unfolding all_themselves
    both_themselves [] ys = sym (sum.left (all_themselves ys))
    both_themselves (x ∷ xs) ys = ap (plus (itself x)) (both_themselves xs ys) ∙ sym (sum.grouped (itself x) (all_themselves xs) (all_themselves ys))

    ends_count : (k : ℕ) (bs : Bodies Maker) → length (bodies_of bs) ≡ length (ends_of k bs)
    ends_count k no_bodies = refl
    ends_count k (body f bs) = ap suc (ends_count (k + forest_size f) bs)

    mutual
      unfolding total all_themselves IsMade

      forest_total : (k : ℕ) (f : Forest Maker) → AllByRecursion IsMade (laid k f) → of_nodes (nodes_of f) ≡ all_themselves (laid k f)
      forest_total k empty h = sum.nothing
      forest_total k (node make bs rest) h =
          let x : Flat Maker = record { head = make; ends = ends_of (k + 1) bs } in
          let inner = laid_bodies (k + 1) bs in
          let after = laid (k + 1 + sizes bs) rest in
          sum.more (make (bodies_of bs)) (nodes_of rest)
          ∙ (λ i. plus ((h.0 (bodies_of bs) (ends_count (k + 1) bs) ∙ ap (plus (itself x)) (bodies_total (k + 1) bs (all_left inner after h.1))) i) (forest_total (k + 1 + sizes bs) rest (all_right inner after h.1) i))
          ∙ sum.grouped (itself x) (all_themselves inner) (all_themselves after)
          ∙ ap (plus (itself x)) (sym (both_themselves inner after))

      bodies_total : (k : ℕ) (bs : Bodies Maker) → AllByRecursion IsMade (laid_bodies k bs) → total (bodies_of bs) ≡ all_themselves (laid_bodies k bs)
      bodies_total k no_bodies h = refl
      bodies_total k (body f bs) h =
          let first = laid k f in
          let after = laid_bodies (k + forest_size f) bs in
          (λ i. plus (forest_total k f (all_left first after h) i) (bodies_total (k + forest_size f) bs (all_right first after h) i)) ∙ sym (both_themselves first after)

    -- ---- templates

    module _ (splits : Splits none plus of_node of_nodes) where
      leaf_made : (n : tree.Node) → IsMade (leaf n)
      leaf_made n = is_made (of_node n) (leaf n) (leaf_makes (of_node n) n refl)

      case_made : (t : Expression) (arms : List Arm) (z : ℕ) → IsMade (case_flat t (arm_values arms) (arm_ends arms) z)
      case_made t arms z =
          let values = of_arms (splits.of_whens t) (splits.of_values t) (splits.no_when t) (splits.when_is t) (arm_values arms) in
          is_made (plus (splits.a_case t) values) (case_flat t (arm_values arms) (arm_ends arms) z)
          (case_makes (splits.of_whens t) (splits.of_values t) (splits.no_when t) (splits.when_is t) (splits.a_case t) t arms z (splits.case_is t))

      -- one case for each kind of node
      made : (n : Node) → IsMade (flat_of n)
      made (Plain t) = leaf_made (tree.plain (string_bytes t))
      made (Output chain) = leaf_made (tree.output (chain_view chain))
      made (Assign target chain) = leaf_made (tree.assign (string_bytes target) (chain_view chain))
      made (Raw t) = leaf_made (tree.raw (string_bytes t))
      made Comment = leaf_made tree.comment
      made (If condition ends) =
          let c = condition_view condition in
          is_made (splits.an_if c) (two_bodies (tree.if_true c) ends) (two_makes (splits.an_if c) (tree.if_true c) ends (splits.if_is c))
      made (Unless condition ends) =
          let c = condition_view condition in
          is_made (splits.an_if c) (two_bodies (tree.unless c) ends) (two_makes (splits.an_if c) (tree.unless c) ends (splits.unless_is c))
      made (Capture target end) =
          let v = string_bytes target in
          is_made (splits.a_capture v) (one_body (tree.capture v) end) (one_makes (splits.a_capture v) (tree.capture v) end (splits.capture_is v))
      made (Case target arms end) = case_made (expression_view target) arms.items end
      made (For f ends) =
          let v = string_bytes f.value.variable in
          let s = source_view f.value.source in
          let w = window_view f.value.window in
          is_made (splits.a_for v s w) (two_bodies (tree.for_each v s w) ends) (two_makes (splits.a_for v s w) (tree.for_each v s w) ends (splits.for_is v s w))
      made (TableRow r end) =
          let v = string_bytes r.value.variable in
          let s = source_view r.value.source in
          let w = window_view r.value.window in
          let c = option_map expression_view r.value.cols in
          is_made (splits.a_row v s w c) (one_body (tree.tablerow v s w c) end) (one_makes (splits.a_row v s w c) (tree.tablerow v s w c) end (splits.row_is v s w c))
      made Break = leaf_made tree.break_loop
      made Continue = leaf_made tree.continue_loop
      made (Increment target) = leaf_made (tree.increment (string_bytes target))
      made (Decrement target) = leaf_made (tree.decrement (string_bytes target))
      made (Cycle group values) = leaf_made (tree.cycle (string_bytes group) (map expression_view values.items))
      made (IfChanged end) = is_made splits.a_changed (one_body tree.ifchanged end) (one_makes splits.a_changed tree.ifchanged end splits.changed_is)
      made (Filtered filters end) =
          let calls = map chain_filter_view filters.items in
          is_made (splits.a_filtered calls) (one_body (tree.filtered calls) end) (one_makes (splits.a_filtered calls) (tree.filtered calls) end (splits.filtered_is calls))
      made (Include partial pairs) = leaf_made (tree.include (expression_view partial) (bindings_view pairs.items))
      made (JekyllInclude partial pairs) = leaf_made (tree.jekyll_include (string_bytes partial) (bindings_view pairs.items))
      made (Render partial pairs) = leaf_made (tree.render (expression_view partial) None (bindings_view pairs.items))
      made (RenderEach partial each pairs) = leaf_made (tree.render (expression_view partial) (Some (each_view each)) (bindings_view pairs.items))

      all_made : (ns : List Node) → AllByRecursion IsMade (flats ns)
      all_made [] = tt
      all_made (n ∷ ns) = (made n, all_made ns)

      own_total : (ns : List Node) → all_themselves (flats ns) ≡ of_nodes (own_nodes ns)
      unfolding all_themselves itself own_nodes
      own_total [] = sym sum.nothing
      own_total (n ∷ ns) = ap (plus (itself (flat_of n))) (own_total ns) ∙ sym (sum.more (own_node n) (own_nodes ns))

      pub tree_total : (t : Template) → of_nodes (tree_of t) ≡ of_nodes (own_nodes (template_nodes t))
      tree_total t =
          ap of_nodes (tree_is t)
          ∙ forest_total 0 (forest_of t) (subst (AllByRecursion IsMade) (sym (template_laid t)) (all_made (template_nodes t)))
          ∙ ap all_themselves (template_laid t)
          ∙ own_total (template_nodes t)
