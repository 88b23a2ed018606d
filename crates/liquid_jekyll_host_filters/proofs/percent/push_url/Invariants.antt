use Rattle.std.proofs.Common.{◌≡◌, ◌++◌, string_bytes, length}
use denote.Text.{Utf8}
use denote.Shadow.{shadow}
use Rattle.liquid_jekyll_host_filters.specs.Urls.{url_escaped_as}
use Rattle.liquid_jekyll_host_filters.proofs.percent.push_url.Given as goal

abbrev pub invariant-loop-before : goal.invariant-loop-before
invariant-loop-before l =
    shadow (Utf8 l.rest) × (string_bytes l.initial.out ++ url_escaped_as l.how l.text ≡ string_bytes l.out ++ url_escaped_as l.how l.rest)

abbrev pub decreases-loop-before : goal.decreases-loop-before
decreases-loop-before l = length l.rest
