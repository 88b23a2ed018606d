-- The words that a block knows besides those that are registered.
use Rattle.std.specs.Prelude.{[], codes, cond, bytes_eq, Option, Some, None}
use Rattle.liquid_model.specs.Texts.{Text}
use Rattle.liquid_language.specs.HostTags.{end_in}
use Rattle.liquid_language.specs.declared.block.Block.{Block}
use Rattle.liquid_language.specs.declared.block.Control.{Control}
use Rattle.liquid_language.specs.declared.block.Control.TheVariants.{Elsif, Else, BareElse, When}
use Rattle.liquid_language.specs.declared.block.Block.TheVariants.{If, Unless, Case, For, TableRow}
use Rattle.liquid_language.specs.declared.block.Block.TheVariants.{Capture, IfChanged, Host}
use Rattle.liquid_language.specs.declared.registry.Language.{Language}

-- the name of the tag that ends a block, of those that each language may have
abbrev pub standard_end : Block → Text
standard_end If = codes "endif"
standard_end Unless = codes "endunless"
standard_end Case = codes "endcase"
standard_end For = codes "endfor"
standard_end TableRow = codes "endtablerow"
standard_end Capture = codes "endcapture"
standard_end IfChanged = codes "endifchanged"
standard_end (Host n) = []

-- the name of the tag that ends a block
abbrev pub end_word : Language → Block → Text
end_word l (Host n) = end_in l.host_tags n
end_word l b = standard_end b

-- `else`, or nothing
abbrev pub else_word : Text → Option Control
else_word w = cond (bytes_eq w (codes "else")) (Some Else) None

-- `else` without items, or nothing
abbrev pub bare_else_word : Text → Option Control
bare_else_word w = cond (bytes_eq w (codes "else")) (Some BareElse) None

-- the control word that a name is, in a body of the block that one can end
abbrev pub control_of : Block → Text → Option Control
control_of If w = cond (bytes_eq w (codes "elsif")) (Some Elsif) (else_word w)
control_of Unless w = else_word w
control_of Case w = cond (bytes_eq w (codes "when")) (Some When) (bare_else_word w)
control_of For w = bare_else_word w
control_of TableRow w = None
control_of Capture w = None
control_of IfChanged w = None
control_of (Host n) w = None
