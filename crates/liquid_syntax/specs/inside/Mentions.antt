-- The names that the nodes of a list mention.
--     own_names      of a node itself, and not of its bodies;   list_names      of the nodes of a
--                    list
--     held_names      of the list of a partial, where its slot holds one;   partials_list_names
--                     of the lists of all partials
use Rattle.std.specs.Prelude.{List, [], ◌∷◌, ◌++◌, string_bytes, codes, Option, Some, None}
use Rattle.std.specs.Prelude.{option_map}
use Rattle.liquid_core.specs.Expression.{Expression}
use Rattle.liquid_core.specs.ExpressionView.{expression_view}
use Rattle.liquid_model.specs.Texts.{Text}
use Rattle.liquid_evaluation.specs.Names.{bound_names, include_name, node_names, nodes_names}
use Rattle.liquid_evaluation.specs.Names.{optional_names, source_names, target_names, whens_names}
use Rattle.liquid_evaluation.specs.Names.{window_names}
use Rattle.liquid_evaluation.specs.SourceView.{source_view}
use Rattle.liquid_evaluation.specs.Tree.{Bindings, Source}
use Rattle.liquid_syntax.specs.Flats.{window_view}
use Rattle.liquid_syntax.specs.inside.OwnNodes.{own_node, own_nodes, own_whens}
use Rattle.liquid_syntax.specs.Templates.{template_nodes}
use Rattle.liquid_syntax.specs.declared.loop_nodes.Each.{Each}
use Rattle.liquid_syntax.specs.declared.loop_nodes.For as loops
use Rattle.liquid_syntax.specs.declared.loop_nodes.TableRow as rows
use Rattle.liquid_syntax.specs.declared.node.Node.{Node}
use Rattle.liquid_syntax.specs.declared.template.Template.{Template}

-- of the `when` parts of a `case`: the names in their values
abbrev pub arms_names : List (List Expression) → List Text
arms_names arms = whens_names (own_whens arms)

-- of pairs: the names that they bind, and those in the values that are bound
abbrev pub pairs_names : Bindings → List Text
pairs_names pairs = target_names pairs ++ bound_names pairs

-- of the pairs of a jekyll `include`
abbrev pub jekyll_names : Bindings → List Text
jekyll_names pairs = include_name pairs ++ bound_names pairs

-- of the head of a loop: the name of what it shows of itself, its variable, and the names in its
-- source
unfoldable pub head_names : Text → Text → Source → List Text
head_names shown variable source = shown ∷ variable ∷ source_names source

abbrev pub for_names : loops.For → List Text
for_names f = head_names (codes "forloop") (string_bytes f.variable) (source_view f.source) ++
    window_names (window_view f.window)

abbrev pub row_names : rows.TableRow → List Text
row_names r =
    head_names (codes "tablerow") (string_bytes r.variable) (source_view r.source)
    ++ (optional_names (option_map expression_view r.cols) ++ window_names (window_view r.window))

-- of the `for` of a `render`
abbrev pub each_names : Each → List Text
each_names each = head_names (codes "forloop") (string_bytes each.variable)
    (source_view each.source)

abbrev pub own_names : Node → List Text
own_names n = node_names (own_node n)

abbrev pub list_names : List Node → List Text
list_names ns = nodes_names (own_nodes ns)

abbrev pub held_names : Option Template → List Text
held_names None = []
held_names (Some t) = list_names (template_nodes t)

unfoldable pub partials_list_names : List (Option Template) → List Text
partials_list_names [] = []
partials_list_names (held ∷ more) = held_names held ++ partials_list_names more
