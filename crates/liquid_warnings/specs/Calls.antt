-- The partials that tags run.
--     called_by node      the name of the partial that a node runs, where it is known, and whether
--                         the node is a `render`
--     partial_file partials name is_render      the file of a partial
use Rattle.std.specs.Prelude.{ℕ, Bool, true, false, cond, ◌++◌, Option, Some, None, codes}
use Rattle.std.specs.Prelude.{string_bytes}
use Rattle.liquid_model.specs.Texts.{Text}
use Rattle.liquid_core.specs.ExpressionView.{expression_view}
use Rattle.liquid_core.specs.declared.expression.Expression.{Expression}
use Rattle.liquid_syntax.specs.declared.node.Node.{Node}
use Rattle.liquid_syntax.specs.declared.node.Node.TheVariants.{Include, JekyllInclude, Render}
use Rattle.liquid_syntax.specs.declared.node.Node.TheVariants.{RenderEach}
use Rattle.liquid_warnings.specs.Literals.{literal_of, text_found}

-- the text that stands in the template itself
abbrev pub name_in_literal : Expression → Option Text
name_in_literal x = text_found (literal_of (expression_view x))

abbrev pub called_by : Node → Option (Option Text × Bool)
called_by (Include name pairs) = Some (name_in_literal name, false)
called_by (JekyllInclude name pairs) = Some (Some (string_bytes name), false)
called_by (Render name pairs) = Some (name_in_literal name, true)
called_by (RenderEach name each pairs) = Some (name_in_literal name, true)
called_by _ = None

abbrev pub first_file : Option ℕ → Option ℕ → Option ℕ
first_file None other = other
first_file (Some n) other = Some n

-- a `render` also finds a partial by its name with `.liquid`
abbrev pub partial_file : (Text → Option ℕ) → Option Text → Bool → Option ℕ
partial_file partials None is_render = None
partial_file partials (Some name) is_render = first_file (partials name)
    (cond is_render (partials (name ++ codes ".liquid")) None)
