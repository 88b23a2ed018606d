use Rattle.std.proofs.Common.{◌≡◌}
use Rattle.std.specs.Str.{chars, IsUtf8}
use Rattle.liquid_warnings.specs.HtmlPlaces.{place_after}
use Rattle.liquid_warnings.proofs.html_place.HtmlPlace.after.Given as goal

-- the characters that are left lead from here to where all of them lead
abbrev pub invariant-loop-letter : goal.invariant-loop-letter
invariant-loop-letter l =
    IsUtf8 l.rest.rest.now × (place_after l.initial.place (chars l.text) ≡ place_after l.place (chars l.rest.rest.now))
