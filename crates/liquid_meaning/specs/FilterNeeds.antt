-- What the filters that go through lists ask of their input.
--     known_needs      of each call of a filter: `size` sees how many items there are, `first` and
--                      `last` an end, `reverse` and `concat` what is asked of the answer's items,
--                      `where`, `sort` and `sort_natural` with a property also that, `map` its
--                      property alone, `compact` also which items or properties are nil, `default`
--                      what is asked of the answer and how many items there are; all others see
--                      everything
use Rattle.std.specs.Prelude.{cond, List, [], ◌∷◌, Option, Some, None, codes}
use Rattle.liquid_model.specs.Texts.{Text, same_text}
use Rattle.liquid_model.specs.Data.{text_of}
use Rattle.liquid_core.specs.Expression.{Expression, literal}
use Rattle.liquid_filters.specs.declared.kind.FilterKind.{FilterKind}
use Rattle.liquid_filters.specs.declared.kind.FilterKind.TheVariants.{Sort, SortNatural, Where}
use Rattle.liquid_filters.specs.declared.kind.FilterKind.TheVariants.{Reverse, Map, Concat, First}
use Rattle.liquid_filters.specs.declared.kind.FilterKind.TheVariants.{Last, Size, Compact}
use Rattle.liquid_filters.specs.declared.kind.FilterKind.TheVariants.{Default}
use Rattle.liquid_evaluation.specs.Tree.{Filter, existing, hosted}
use Rattle.liquid_evaluation.specs.Evaluation.{answers_with}
use Rattle.liquid_model.specs.FilterAnswers.{FilterAnswer}
use Rattle.liquid_model.specs.Uses.{Use, nothing, everything, parts, no_fields, field, uncounted}
use Rattle.liquid_model.specs.Uses.{every, there, present, use_of_each, join, items_wanted}
use Rattle.liquid_meaning.specs.Reading.{Needs}
use Rattle.liquid_meaning.specs.Reads.{Respects}

-- ---- uses of lists

-- how many items there are, and this of each
abbrev pub items_each : Use → Use
items_each u = parts no_fields (every u)

-- w of a value of that name, and u
abbrev pub with_field : Text → Use → Use → Use
with_field name w u = join (parts (field name w no_fields) uncounted) u

-- u of each item of a list, and of a map that counts as a list of itself
abbrev pub items_or_itself : Use → Use
items_or_itself (parts members turns) =
    parts members (every (join (parts members turns) (use_of_each turns)))
items_or_itself _ = everything

-- ---- the filters

abbrev pub one_field : Text → Use → Use
one_field name u = parts (field name u no_fields) uncounted

-- the text of a first argument that is a literal
abbrev pub literal_first_argument : List Expression → Option Text
literal_first_argument (literal d ∷ xs) = Some (text_of d)
literal_first_argument _ = None

-- a property, whose step of the name finds it and no length
abbrev pub by_property : Option Text → (Text → Use) → Use
by_property None f = everything
by_property (Some name) f = cond (same_text name (codes "size")) everything (f name)

-- without a property the items are tested, which is seen by their kind, and else their properties
abbrev pub compact_needs : List Expression → Use → Use
compact_needs [] v = items_each (present (items_wanted v))
compact_needs (x ∷ xs) v =
    by_property (literal_first_argument (x ∷ xs))
    (λ name. items_each (with_field name there (items_wanted v)))

abbrev pub kind_needs : FilterKind → List Expression → Use → Use
kind_needs Size arguments v = items_each nothing
kind_needs First arguments v = one_field (codes "first") v
kind_needs Last arguments v = one_field (codes "last") v
kind_needs Reverse arguments v = items_each (items_wanted v)
kind_needs Concat arguments v = items_each (items_wanted v)
kind_needs Map arguments v =
    by_property (literal_first_argument arguments)
    (λ name. items_each (one_field name (present (items_wanted v))))
kind_needs Where arguments v = by_property (literal_first_argument arguments)
    (λ name. items_or_itself (with_field name everything (items_wanted v)))
kind_needs Sort arguments v =
    by_property (literal_first_argument arguments)
    (λ name. items_or_itself (with_field name everything (items_wanted v)))
kind_needs SortNatural arguments v =
    by_property (literal_first_argument arguments)
    (λ name. items_or_itself (with_field name everything (items_wanted v)))
kind_needs Compact arguments v = compact_needs arguments v
kind_needs Default arguments v = join (items_each nothing) v
kind_needs _ arguments v = everything

abbrev pub filter_needs : Filter → List Expression → Use → Use
filter_needs (existing kind) arguments v = kind_needs kind arguments v
filter_needs (hosted name) arguments v = everything

abbrev pub known_needs : Needs
known_needs call v = filter_needs call.filter call.arguments v

-- the filters that exist respect these, whatever a host's answer
abbrev pub KnownRespected : Type 0
KnownRespected = (named : Text → FilterAnswer) → Respects (answers_with named) known_needs
