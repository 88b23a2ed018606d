-- The call of `section`, by its texts.
use Rattle.std.proofs.Common.{◌≡◌, ◌∙◌, List, [], codes, ap, map, string_bytes, String, Vec, Global}
use Rattle.liquid_model.specs.Texts.{Text}
use Rattle.liquid_core.specs.Expression as tree
use Rattle.liquid_core.specs.ExpressionView.{expression_view, steps_view}
use Rattle.liquid_core.specs.declared.expression.Expression.{Expression, Variable}
use Rattle.liquid_core.specs.declared.expression.Variable.{roll-Variable}
use Rattle.liquid_lexer.proofs.Expressions.{view-Variable}
use Rattle.liquid_lexer.specs.declared.style.Style.TheVariants.{Items}
use Rattle.liquid_language.specs.HostTags.{TagCall, tag_call}
use Rattle.liquid_filter_sets.specs.ShopifyTags.{section_call}

abbrev called : Text → tree.Expression → TagCall
called filter input = record { filter = filter; input = input; style = Items; given = [] }

pub section_of : (filter name : String Global) (xs gs : Vec Expression Global) → string_bytes filter ≡ codes "section" → string_bytes name ≡ codes "sections" → xs.items ≡ [] → gs.items ≡ [] → tag_call (record { filter = filter; input = Variable (roll-Variable record { name = name; indexes = xs }); style = Items; given = gs }) ≡ section_call
section_of filter name xs gs f n none lone =
    ap (λ (es : List Expression). record { filter = string_bytes filter; input = expression_view (Variable (roll-Variable record { name = name; indexes = xs })); style = Items; given = map expression_view es }) lone
    ∙ ap (called (string_bytes filter)) (view-Variable name xs ∙ ap (λ (w : Text). tree.variable w (steps_view xs.items)) n ∙ ap (λ (es : List Expression). tree.variable (codes "sections") (steps_view es)) none)
    ∙ ap (λ (w : Text). called w (tree.variable (codes "sections") tree.no_steps)) f
