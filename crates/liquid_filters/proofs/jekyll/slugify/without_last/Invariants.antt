use Rattle.std.proofs.Common.{◌≡◌, length}
use Rattle.std.specs.Str.{chars}
use denote.Text.{Utf8}
use denote.Shadow.{shadow}
use Rattle.liquid_filters.specs.Slugs.{without_last}
use Rattle.liquid_filters.proofs.jekyll.slugify.without_last.Given as goal

abbrev pub invariant-hyphens : goal.invariant-hyphens
invariant-hyphens l = shadow (Utf8 l.rest) × (without_last (chars l.text) ≡ without_last (chars l.rest))

abbrev pub decreases-hyphens : goal.decreases-hyphens
decreases-hyphens l = length l.rest
