-- Expressions that are read otherwise than they look.
--     node_slip node      the first of an output, an `assign`, a condition or a `case`
--     slip_said position x      what is said of it
use Rattle.std.specs.Prelude.{ℕ, ◌-◌, ◌==◌, ◌&&◌, ◌||◌, Bool, true, false, cond, List, [], ◌∷◌}
use Rattle.std.specs.Prelude.{Option, Some, None, Vec, codes, is_some, length, nat_lt, slice_index}
use Rattle.std.specs.Option.{option_or}
use Rattle.std.specs.declared.alloc.Global.{Global}
use Rattle.liquid_core.specs.ExpressionView.{expression_view}
use Rattle.liquid_core.specs.declared.expression.Expression.{Expression}
use Rattle.liquid_evaluation.specs.declared.chain.ChainFilter.{ChainFilter}
use Rattle.liquid_evaluation.specs.declared.chain.FilterChain.{FilterChain}
use Rattle.liquid_evaluation.specs.declared.condition.Atom.{Atom}
use Rattle.liquid_evaluation.specs.declared.condition.Atom.TheVariants.{Bare, Compared}
use Rattle.liquid_evaluation.specs.declared.condition.Condition.{Condition}
use Rattle.liquid_model.specs.Texts.{Text}
use Rattle.liquid_syntax.specs.declared.node.Node.{Node}
use Rattle.liquid_syntax.specs.declared.node.Node.TheVariants.{Assign, Case, If, Output, Unless}
use Rattle.liquid_syntax.specs.declared.positions.Position.{Position}
use Rattle.liquid_warnings.specs.Literals.{literal_of, text_found}
use Rattle.liquid_warnings.specs.LoopParts.{lacking_part, part_message}
use Rattle.liquid_warnings.specs.Remarks.{Said, warning}

-- ---- texts with signs of other languages

-- n, r or t
abbrev pub is_sign_letter : ℕ → Bool
is_sign_letter b = (b == 110) || ((b == 114) || (b == 116))

-- it ends with `\n`, `\r` or `\t`, which are two characters each
abbrev pub ends_with_sign : Text → Bool
ends_with_sign s = nat_lt 1 (length s) && ((slice_index s (length s - 2) == 92)
    && is_sign_letter (slice_index s (length s - 1)))

abbrev pub is_sign_text : Option Text → Bool
is_sign_text None = false
is_sign_text (Some s) = ends_with_sign s

abbrev pub sign_message : Text
sign_message = codes
    "a `\\` escapes nothing in a text; for a line end write the line end itself between the quotes"

-- ---- the first of a node

abbrev pub is_slip : Expression → Bool
is_slip x = is_some (lacking_part (expression_view x))
    || is_sign_text (text_found (literal_of (expression_view x)))

abbrev pub own_slip : Expression → Option Expression
own_slip x = cond (is_slip x) (Some x) None

abbrev pub first_slip : List Expression → Option Expression
first_slip [] = None
first_slip (x ∷ xs) = option_or (own_slip x) (first_slip xs)

abbrev pub filters_slip : List ChainFilter → Option Expression
filters_slip [] = None
filters_slip (f ∷ fs) = option_or (first_slip f.arguments.items) (filters_slip fs)

abbrev pub chain_slip : FilterChain → Option Expression
chain_slip c = option_or (own_slip c.entry) (filters_slip c.filters.items)

abbrev pub atom_slip : Atom → Option Expression
atom_slip (Bare x) = own_slip x
atom_slip (Compared l comparison r) = option_or (own_slip l) (own_slip r)

abbrev pub atoms_slip : List Atom → Option Expression
atoms_slip [] = None
atoms_slip (x ∷ xs) = option_or (atom_slip x) (atoms_slip xs)

abbrev pub conjunctions_slip : List (Vec Atom Global) → Option Expression
conjunctions_slip [] = None
conjunctions_slip (c ∷ cs) = option_or (atoms_slip c.items) (conjunctions_slip cs)

abbrev pub node_slip : Node → Option Expression
node_slip (Output chain) = chain_slip chain
node_slip (Assign name chain) = chain_slip chain
node_slip (If condition ends) = conjunctions_slip condition.conjunctions.items
node_slip (Unless condition ends) = conjunctions_slip condition.conjunctions.items
node_slip (Case target arms end) = own_slip target
node_slip _ = None

-- ---- what is said of it

abbrev pub part_said : Position → Option (Text × Text) → Said
part_said position (Some p) =
    warning position (codes "UnknownPart") (part_message p.0 p.1)
part_said position None = warning position (codes "NoEscape") sign_message

abbrev pub slip_of : Position → Option Expression → Option Said
slip_of position None = None
slip_of position (Some x) = Some (part_said position (lacking_part (expression_view x)))

abbrev pub slip_said : Position → Node → Option Said
slip_said position node = slip_of position (node_slip node)
