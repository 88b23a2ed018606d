use Rattle.std.proofs.Common.{◌∙◌, sym}
use Rattle.liquid_filters.proofs.jekyll.slugify.without_last.Goals as goal

pub returns : goal.returns
returns c = sym c.in_default.ensures ∙ sym c.hyphens.invariant.1
