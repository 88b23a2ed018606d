-- What the uses of names grant of the nodes of a list.
--     own_grants U n      what a node itself asks for, and not its bodies
--     list_grants U ns      what all nodes of a list do
use Rattle.std.specs.Prelude.{Bool, true, ◌&&◌, List, [], ◌∷◌, string_bytes, codes, Option}
use Rattle.std.specs.Prelude.{Some, None, option_map}
use Rattle.liquid_core.specs.Expression.{Expression}
use Rattle.liquid_core.specs.ExpressionView.{expression_view}
use Rattle.liquid_model.specs.Texts.{Text}
use Rattle.liquid_evaluation.specs.SourceView.{source_view}
use Rattle.liquid_evaluation.specs.Tree.{Bindings, Source}
use Rattle.liquid_syntax.specs.Flats.{window_view}
use Rattle.liquid_syntax.specs.inside.OwnNodes.{own_node, own_nodes, own_whens}
use Rattle.std.specs.Map.{values_of}
use Rattle.liquid_syntax.specs.Templates.{template_nodes}
use Rattle.liquid_syntax.specs.declared.template.Template.{Template}
use Rattle.liquid_syntax.specs.declared.partials.Partials.{Partials}
use Rattle.liquid_syntax.specs.declared.loop_nodes.For as loops
use Rattle.liquid_syntax.specs.declared.loop_nodes.TableRow as rows
use Rattle.liquid_syntax.specs.declared.node.Node.{Node}
use Rattle.liquid_model.specs.Uses.{everything}
use Rattle.liquid_meaning.specs.FilterNeeds.{known_needs}
use Rattle.liquid_meaning.specs.Reading.{Uses, bound_use, is_flat, grants, grants_bindings}
use Rattle.liquid_meaning.specs.Reading.{grants_node, grants_nodes, grants_optional}
use Rattle.liquid_meaning.specs.Reading.{grants_source, grants_whens, grants_window, seen_limit}

-- the values of the `when` parts of a `case`, beside its target
abbrev pub arms_granted : Uses → Expression → List (List Expression) → Bool
arms_granted U target arms = grants_whens known_needs U target (own_whens arms)

abbrev pub for_grants : Uses → loops.For → Bool
for_grants U f = is_flat (U (codes "forloop"))
    && (grants_source U (string_bytes f.variable) (seen_limit (window_view f.window))
    (source_view f.source)
    && grants_window U (window_view f.window))

abbrev pub row_grants : Uses → rows.TableRow → Bool
row_grants U r =
    grants_source U (string_bytes r.variable) (seen_limit (window_view r.window))
    (source_view r.source)
    && (grants_optional U (option_map expression_view r.cols)
    && grants_window U (window_view r.window))

-- the name of a partial, and pairs
abbrev pub pairs_grants : Uses → Expression → Bindings → Bool
pairs_grants U x bindings = grants U x everything && grants_bindings U (bound_use U) bindings

-- the name of a partial, the `for` of a `render`, and pairs
abbrev pub each_grants : Uses → Expression → Source × Text → Bindings → Bool
each_grants U x each bindings = grants U x everything
    && (grants_source U each.1 None each.0 && grants_bindings U (bound_use U) bindings)

abbrev pub own_grants : Uses → Node → Bool
own_grants U n = grants_node known_needs U (own_node n)

abbrev pub list_grants : Uses → List Node → Bool
list_grants U ns = grants_nodes known_needs U (own_nodes ns)

-- ---- partials

abbrev pub held_grants : Uses → Option Template → Bool
held_grants U None = true
held_grants U (Some t) = list_grants U (template_nodes t)

unfoldable pub slots_grant : Uses → List (Option Template) → Bool
slots_grant U [] = true
slots_grant U (held ∷ more) = held_grants U held && slots_grant U more

-- what the slots of partials hold
abbrev pub slot_values : Partials → List (Option Template)
slot_values p = values_of p.templates.entries
