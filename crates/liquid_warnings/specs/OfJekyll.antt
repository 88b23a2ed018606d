-- Warnings about templates for Jekyll alone.
--     jekyll_said e position node      of the node that begins at the position
use Rattle.std.specs.Prelude.{Bool, false, cond, List, [], ◌∷◌, Option, Some, None, bytes_eq}
use Rattle.std.specs.Prelude.{codes}
use Rattle.liquid_evaluation.specs.StoredFilters.{stored_name}
use Rattle.liquid_evaluation.specs.declared.chain.ChainFilter.{ChainFilter}
use Rattle.liquid_syntax.specs.declared.node.Node.{Node}
use Rattle.liquid_syntax.specs.declared.node.Node.TheVariants.{Filtered}
use Rattle.liquid_syntax.specs.declared.positions.Position.{Position}
use Rattle.liquid_warnings.specs.Messages.{colours_message}
use Rattle.liquid_warnings.specs.Modes.{unknown_mode}
use Rattle.liquid_warnings.specs.Ported.{is_for_jekyll}
use Rattle.liquid_warnings.specs.Remarks.{Said, said_or_else, warning}
use Rattle.liquid_warnings.specs.declared.written_for.WrittenFor.{WrittenFor}

abbrev pub calls_highlight : List ChainFilter → Bool
calls_highlight [] = false
calls_highlight (f ∷ fs) = bytes_eq (stored_name f.filter) (codes "highlight")

-- the block `highlight`
abbrev pub is_highlight : Node → Bool
is_highlight (Filtered filters end) = calls_highlight filters.items
is_highlight _ = false

-- its code has no colours here
abbrev pub no_colours : Position → Node → Option Said
no_colours position node = cond (is_highlight node)
    (Some (warning position (codes "NoColours") colours_message)) None

abbrev pub jekyll_said : WrittenFor → Position → Node → Option Said
jekyll_said e position node = cond (is_for_jekyll e)
    (said_or_else (unknown_mode position node) (no_colours position node)) None
