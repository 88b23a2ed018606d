use Rattle.std.proofs.Common.{◌∙◌, ap, option_map}
use Rattle.std.specs.Str.{trim_end}
use Rattle.liquid_files.proofs.excerpt.shown_line.Goals as goal

pub returns : goal.returns
returns c = (c.without_mark.result.now, c.without_mark.ensures, c.trimmed.ensures ∙ ap (option_map trim_end) c.line_numbered.ensures)
