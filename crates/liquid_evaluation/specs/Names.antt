-- The names that a template mentions: those that a run can look up, bind or set.
--     nodes_names      of a list of nodes;   run_names      of a template and of every partial
--     mentioned names      the test for one of them
-- Texts are no names: the name of a `cycle` (its group) gives none.
use Rattle.std.specs.Prelude.{List, [], ◌∷◌, ◌++◌, Option, Some, None, codes}
use Rattle.std.specs.List.{list_any}
use Rattle.liquid_model.specs.Texts.{Text, same_text}
use Rattle.liquid_core.specs.Expression.{Expression, literal, variable, Steps, no_steps, step}
use Rattle.liquid_evaluation.specs.Tree.{FilterCall, Chain, Atom, bare, compared, Condition, Source}
use Rattle.liquid_evaluation.specs.Tree.{each_of, counted, Window, Bindings, Node, plain, raw}
use Rattle.liquid_evaluation.specs.Tree.{comment, output, assign, increment, decrement, break_loop}
use Rattle.liquid_evaluation.specs.Tree.{continue_loop, cycle, if_true, unless, case_of, for_each}
use Rattle.liquid_evaluation.specs.Tree.{tablerow, capture, ifchanged, filtered, include}
use Rattle.liquid_evaluation.specs.Tree.{jekyll_include, render, Nodes, no_nodes, node, Whens}
use Rattle.liquid_evaluation.specs.Tree.{no_whens, when}
use Rattle.liquid_core.specs.Environment.{Names}

-- the first name of each variable, also in steps
unfoldable mutual
  pub expression_names : Expression → List Text
  expression_names (literal d) = []
  expression_names (variable name steps) = name ∷ steps_names steps

  pub steps_names : Steps → List Text
  steps_names no_steps = []
  steps_names (step x more) = expression_names x ++ steps_names more

unfoldable pub all_names : List Expression → List Text
all_names [] = []
all_names (x ∷ xs) = expression_names x ++ all_names xs

unfoldable pub optional_names : Option Expression → List Text
optional_names None = []
optional_names (Some x) = expression_names x

unfoldable pub filters_names : List FilterCall → List Text
filters_names [] = []
filters_names (call ∷ calls) = all_names call.arguments ++ filters_names calls

unfoldable pub chain_names : Chain → List Text
chain_names chain = expression_names chain.entry ++ filters_names chain.filters

unfoldable pub atom_names : Atom → List Text
atom_names (bare x) = expression_names x
atom_names (compared left comparison right) = expression_names left ++ expression_names right

unfoldable pub atoms_names : List Atom → List Text
atoms_names [] = []
atoms_names (atom ∷ atoms) = atom_names atom ++ atoms_names atoms

unfoldable pub condition_names : Condition → List Text
condition_names [] = []
condition_names (conjunction ∷ conjunctions) = atoms_names conjunction ++
    condition_names conjunctions

unfoldable pub source_names : Source → List Text
source_names (each_of x) = expression_names x
source_names (counted first last) = expression_names first ++ expression_names last

unfoldable pub window_names : Window → List Text
window_names window = optional_names window.limit ++ optional_names window.offset

-- of pairs: the names in the values that are bound
unfoldable pub bound_names : Bindings → List Text
bound_names [] = []
bound_names (b ∷ bs) = expression_names b.1 ++ bound_names bs

-- of pairs: the names that they bind
unfoldable pub target_names : Bindings → List Text
target_names [] = []
target_names (b ∷ bs) = b.0 ∷ target_names bs

-- the one name that a jekyll `include` with pairs binds
unfoldable pub include_name : Bindings → List Text
include_name [] = []
include_name (b ∷ bs) = codes "include" ∷ []

unfoldable mutual
  pub node_names : Node → List Text
  node_names (plain content) = []
  node_names (raw content) = []
  node_names comment = []
  node_names (output chain) = chain_names chain
  node_names (assign name chain) = name ∷ chain_names chain
  node_names (increment name) = name ∷ []
  node_names (decrement name) = name ∷ []
  node_names break_loop = []
  node_names continue_loop = []
  node_names (cycle group values) = all_names values
  node_names (if_true condition body otherwise) = condition_names condition ++
      (nodes_names body ++ nodes_names otherwise)
  node_names (unless condition body otherwise) = condition_names condition ++
      (nodes_names body ++ nodes_names otherwise)
  node_names (case_of target whens otherwise) = expression_names target ++
      (whens_names whens ++ nodes_names otherwise)
  node_names (for_each name source window body otherwise) =
      codes "forloop" ∷ name ∷
      (source_names source ++
      (window_names window ++ (nodes_names body ++ nodes_names otherwise)))
  node_names (tablerow name source window columns body) =
      codes "tablerow" ∷ name ∷
      (source_names source ++
      (optional_names columns ++ (window_names window ++ nodes_names body)))
  node_names (capture name body) = name ∷ nodes_names body
  node_names (ifchanged body) = nodes_names body
  node_names (filtered filters body) = filters_names filters ++ nodes_names body
  node_names (include x bindings) =
      expression_names x ++ (target_names bindings ++ bound_names bindings)
  node_names (jekyll_include chain bindings) = chain_names chain ++
      (include_name bindings ++ bound_names bindings)
  node_names (render x None bindings) = expression_names x ++
      (target_names bindings ++ bound_names bindings)
  node_names (render x (Some each) bindings) =
      expression_names x ++
      (codes "forloop" ∷ each.1 ∷
      (source_names each.0 ++ (target_names bindings ++ bound_names bindings)))

  pub nodes_names : Nodes → List Text
  nodes_names no_nodes = []
  nodes_names (node n more) = node_names n ++ nodes_names more

  pub whens_names : Whens → List Text
  whens_names no_whens = []
  whens_names (when values body more) = all_names values ++ (nodes_names body ++ whens_names more)

unfoldable pub partials_names : List (Text × Nodes) → List Text
partials_names [] = []
partials_names (p ∷ ps) = nodes_names p.1 ++ partials_names ps

-- the names of a run: those of the template and of every partial
abbrev pub run_names : List (Text × Nodes) → Nodes → List Text
run_names partials nodes = nodes_names nodes ++ partials_names partials

-- whether a name is among these
abbrev pub mentioned : List Text → Names
mentioned names name = list_any (same_text name) names
