-- Loops and conditions that come out the same whatever the data is.
--     fixed_said position node      of a range that goes downwards, or a comparison of two literals
use Rattle.std.specs.Prelude.{Bool, true, false, cond, ◌&&◌, Option, Some, None, Vec, codes}
use Rattle.std.specs.Prelude.{int_lt, is_some}
use Rattle.std.specs.List.{list_any}
use Rattle.std.specs.declared.alloc.Global.{Global}
use Rattle.liquid_core.specs.ExpressionView.{expression_view}
use Rattle.liquid_core.specs.declared.expression.Expression.{Expression}
use Rattle.liquid_evaluation.specs.declared.condition.Atom.{Atom}
use Rattle.liquid_evaluation.specs.declared.condition.Atom.TheVariants.{Compared}
use Rattle.liquid_evaluation.specs.declared.condition.Condition.{Condition}
use Rattle.liquid_evaluation.specs.declared.range_expression.RangeExpression.{RangeExpression}
use Rattle.liquid_evaluation.specs.declared.range_expression.RangeExpression.TheVariants.{Counted}
use Rattle.liquid_model.specs.Data.{Datum, number}
use Rattle.liquid_model.specs.Texts.{Text}
use Rattle.liquid_syntax.specs.declared.node.Node.{Node}
use Rattle.liquid_syntax.specs.declared.positions.Position.{Position}
use Rattle.liquid_warnings.specs.Literals.{literal_of}
use Rattle.liquid_warnings.specs.Nodes.{looped, tested}
use Rattle.liquid_warnings.specs.Remarks.{Said, said_or_else, warning}

-- ---- ranges

-- the second number is less than the first
abbrev pub falls : Option Datum → Option Datum → Bool
falls (Some (number a)) (Some (number b)) = int_lt b a
falls _ _ = false

abbrev pub is_down : RangeExpression → Bool
is_down (Counted first last) =
    falls (literal_of (expression_view first)) (literal_of (expression_view last))
is_down _ = false

abbrev pub down_found : Option RangeExpression → Bool
down_found None = false
down_found (Some source) = is_down source

abbrev pub down_message : Text
down_message = codes
    "this range goes downwards and has no numbers; write the lesser one first, and `reversed`"

abbrev pub down_said : Position → Node → Option Said
down_said position node = cond (down_found (looped node))
    (Some (warning position (codes "DownRange") down_message)) None

-- ---- comparisons

abbrev pub is_any_literal : Expression → Bool
is_any_literal x = is_some (literal_of (expression_view x))

abbrev pub is_fixed_atom : Atom → Bool
is_fixed_atom (Compared l comparison r) = is_any_literal l && is_any_literal r
is_fixed_atom _ = false

abbrev pub has_fixed_atom : Vec Atom Global → Bool
has_fixed_atom atoms = list_any is_fixed_atom atoms.items

abbrev pub fixed_found : Option Condition → Bool
fixed_found None = false
fixed_found (Some c) = list_any has_fixed_atom c.conjunctions.items

abbrev pub literals_message : Text
literals_message = codes
    "no side of this comparison is a name, so it always comes out the same; a name has no quotes"

abbrev pub literals_said : Position → Node → Option Said
literals_said position node = cond (fixed_found (tested node))
    (Some (warning position (codes "FixedTest") literals_message)) None

abbrev pub fixed_said : Position → Node → Option Said
fixed_said position node = said_or_else (down_said position node) (literals_said position node)
