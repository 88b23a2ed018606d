-- Conditions that Liquid for Ruby groups otherwise.
--     groups_otherwise conjunctions      an `or` follows an `and`: there the `or` binds first
--     join_said e position node      what is said of it in templates for an engine of Ruby's
use Rattle.std.specs.Prelude.{Bool, true, false, cond, ◌||◌, List, [], ◌∷◌, Option, Some, None}
use Rattle.std.specs.Prelude.{Vec, codes, length, nat_lt}
use Rattle.std.specs.declared.alloc.Global.{Global}
use Rattle.liquid_evaluation.specs.declared.condition.Atom.{Atom}
use Rattle.liquid_evaluation.specs.declared.condition.Condition.{Condition}
use Rattle.liquid_model.specs.Texts.{Text}
use Rattle.liquid_syntax.specs.declared.node.Node.{Node}
use Rattle.liquid_syntax.specs.declared.positions.Position.{Position}
use Rattle.liquid_warnings.specs.Nodes.{tested}
use Rattle.liquid_warnings.specs.Ported.{is_for_ruby}
use Rattle.liquid_warnings.specs.Remarks.{Said, warning}
use Rattle.liquid_warnings.specs.declared.written_for.WrittenFor.{WrittenFor}

-- atoms with an `and` between them
abbrev pub is_joined : Option (Vec Atom Global) → Bool
is_joined None = false
is_joined (Some atoms) = nat_lt 1 (length atoms.items)

-- those that stand before others, where `before` stands before all of these
abbrev pub joined_before : Option (Vec Atom Global) → List (Vec Atom Global) → Bool
joined_before before [] = false
joined_before before (c ∷ cs) = is_joined before || joined_before (Some c) cs

abbrev pub groups_otherwise : Option Condition → Bool
groups_otherwise None = false
groups_otherwise (Some c) = joined_before None c.conjunctions.items

abbrev pub join_message : Text
join_message = codes
    "here `and` binds before `or`, as `(a and b) or c`, in Ruby `a and (b or c)`; use two `if`s"

abbrev pub join_said : WrittenFor → Position → Node → Option Said
join_said e position node = cond (is_for_ruby e) (cond (groups_otherwise (tested node))
    (Some (warning position (codes "AndOr") join_message)) None) None
