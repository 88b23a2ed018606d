-- Parts that the object of a loop hasn't.
--     lacking_part x      the object that an expression asks for a part which it hasn't, and the
--                         part
--     part_message object part      what is said of it
use Rattle.std.specs.Prelude.{Bool, true, false, cond, ◌||◌, ◌++◌, Option, Some, None, bytes_eq}
use Rattle.std.specs.Prelude.{codes}
use Rattle.liquid_core.specs.Expression.{Expression, literal, variable, Steps, no_steps, step}
use Rattle.liquid_model.specs.Quotes.{quotation}
use Rattle.liquid_model.specs.Texts.{Text}
use Rattle.liquid_warnings.specs.Literals.{literal_of, text_found}

-- what the objects of `for` and of `tablerow` have
abbrev pub is_any_part : Text → Bool
is_any_part s = bytes_eq s (codes "first") || (bytes_eq s (codes "index")
    || (bytes_eq s (codes "index0") || (bytes_eq s (codes "last")
    || (bytes_eq s (codes "length") || (bytes_eq s (codes "rindex")
    || (bytes_eq s (codes "rindex0") || bytes_eq s (codes "size")))))))

abbrev pub is_for_part : Text → Bool
is_for_part s = is_any_part s || bytes_eq s (codes "parentloop")

abbrev pub is_table_part : Text → Bool
is_table_part s = is_any_part s || (bytes_eq s (codes "col") || (bytes_eq s (codes "col0")
    || (bytes_eq s (codes "col_first") || bytes_eq s (codes "col_last"))))

-- every other name may have it
abbrev pub has_part : Text → Text → Bool
has_part object part = cond (bytes_eq object (codes "forloop")) (is_for_part part)
    (cond (bytes_eq object (codes "tablerow")) (is_table_part part) true)

abbrev pub first_step : Steps → Option Text
first_step no_steps = None
first_step (step x xs) = text_found (literal_of x)

abbrev pub part_lacked : Text → Option Text → Option (Text × Text)
part_lacked object None = None
part_lacked object (Some part) = cond (has_part object part) None (Some (object, part))

abbrev pub lacking_part : Expression → Option (Text × Text)
lacking_part (literal d) = None
lacking_part (variable object steps) = part_lacked object (first_step steps)

-- those that the object of the other sort hasn't
abbrev pub own_parts : Text → Text
own_parts object = cond (bytes_eq object (codes "tablerow"))
    (codes "`col`, `col0`, `col_first`, `col_last`") (codes "`parentloop`")

abbrev pub part_message : Text → Text → Text
part_message object part = codes "`" ++ (quotation object ++ (codes "` has no `" ++ (quotation part
    ++ (codes "`; it has " ++ (own_parts object ++ codes
    ", `first`, `index`, `index0`, `last`, `length`, `rindex` and `rindex0`")))))
