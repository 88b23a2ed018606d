-- Outputs that were meant as tags.
--     tag_said position node      of an output of a name alone that is a word of a tag, as
--                                 `{{ else }}`
use Rattle.std.specs.Prelude.{Bool, true, false, cond, ◌||◌, ◌++◌, List, [], ◌∷◌, Option, Some}
use Rattle.std.specs.Prelude.{None, bytes_eq, codes}
use Rattle.liquid_core.specs.Expression.{Expression, literal, variable, Steps, no_steps, step}
use Rattle.liquid_core.specs.ExpressionView.{expression_view}
use Rattle.liquid_evaluation.specs.declared.chain.ChainFilter.{ChainFilter}
use Rattle.liquid_evaluation.specs.declared.chain.FilterChain.{FilterChain}
use Rattle.liquid_model.specs.Texts.{Text}
use Rattle.liquid_syntax.specs.declared.node.Node.{Node}
use Rattle.liquid_syntax.specs.declared.node.Node.TheVariants.{Output}
use Rattle.liquid_syntax.specs.declared.positions.Position.{Position}
use Rattle.liquid_warnings.specs.Remarks.{Said, warning}

abbrev pub before_steps : Text → Steps → Option Text
before_steps name no_steps = Some name
before_steps name (step x xs) = None

-- a name without steps
abbrev pub plain_name : Expression → Option Text
plain_name (literal d) = None
plain_name (variable name steps) = before_steps name steps

abbrev pub unfiltered : List ChainFilter → Option Text → Option Text
unfiltered [] name = name
unfiltered (f ∷ fs) name = None

-- the name that an output shows as it is
abbrev pub name_alone : Node → Option Text
name_alone (Output chain) =
    unfiltered chain.filters.items (plain_name (expression_view chain.entry))
name_alone _ = None

abbrev pub is_tag_word : Text → Bool
is_tag_word s = bytes_eq s (codes "else") || (bytes_eq s (codes "elsif")
    || (bytes_eq s (codes "endif") || (bytes_eq s (codes "endfor")
    || (bytes_eq s (codes "endunless") || (bytes_eq s (codes "endcase")
    || bytes_eq s (codes "endcapture"))))))

abbrev pub tag_message : Text → Text
tag_message name = codes "this output shows the value of a name `" ++ (name
    ++ (codes "`; the tag is written `{% " ++ (name ++ codes " %}`")))

abbrev pub tag_of : Position → Text → Option Said
tag_of position name = cond (is_tag_word name)
    (Some (warning position (codes "TagAsOutput") (tag_message name))) None

abbrev pub tag_found : Position → Option Text → Option Said
tag_found position None = None
tag_found position (Some name) = tag_of position name

abbrev pub tag_said : Position → Node → Option Said
tag_said position node = tag_found position (name_alone node)
