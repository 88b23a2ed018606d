use Rattle.std.proofs.Common.{◌≡◌, length}
use Rattle.std.specs.Str.{chars}
use denote.Text.{Utf8}
use denote.Shadow.{shadow}
use Rattle.liquid_filters.specs.Slugs.{without_first}
use Rattle.liquid_filters.proofs.jekyll.slugify.without_first.Given as goal

abbrev pub invariant-hyphens : goal.invariant-hyphens
invariant-hyphens l = shadow (Utf8 l.rest) × (without_first (chars l.text) ≡ without_first (chars l.rest))

abbrev pub decreases-hyphens : goal.decreases-hyphens
decreases-hyphens l = length l.rest
