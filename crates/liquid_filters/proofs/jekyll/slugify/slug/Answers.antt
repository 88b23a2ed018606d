use Rattle.std.proofs.Common.{◌∙◌}
use Rattle.liquid_filters.proofs.Slugs.{slug_is}
use Rattle.liquid_filters.proofs.jekyll.slugify.slug.Goals as goal

pub returns : goal.returns
returns c =
    slug_is c.args.mode c.args.text.now c.trim.result.now c.as_str.result.now c.inner.result.now _ c.trim.utf8 c.trim.ensures.trim
    (c.as_str.ensures.value ∙ c.in_ok-all.ensures) c.inner.utf8 c.inner.ensures c.in_ok-to_ascii_lowercase.ensures.ok
