-- What a tag that takes no items is, where none stand in it.
use Rattle.liquid_language.specs.declared.block.Block.TheVariants.{IfChanged}
use Rattle.liquid_parser.specs.Nesting.{of_one, Statement, leaf, begins, otherwise}
use Rattle.liquid_parser.specs.declared.classify.tags.BareTag.{BareTag}
use Rattle.liquid_parser.specs.declared.classify.tags.BareTag.TheVariants as tags
use Rattle.liquid_evaluation.specs.Tree.{break_loop, continue_loop, ifchanged}

abbrev pub bare_view : BareTag → Statement
bare_view tags.Else = otherwise
bare_view tags.Break = leaf break_loop
bare_view tags.Continue = leaf continue_loop
bare_view tags.IfChanged = begins (of_one IfChanged (λ f. ifchanged f))
