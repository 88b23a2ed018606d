use Rattle.std.proofs.Common.{◌≡◌, length, option_map}
use denote.Text.{Utf8}
use denote.Shadow.{shadow}
use Rattle.liquid_model.specs.View.{view}
use Rattle.liquid_jekyll_host_filters.specs.Properties.{found_or_nil, dotted_property}
use Rattle.liquid_jekyll_host_filters.proofs.properties.property.Given as goal

abbrev pub invariant-loop-first : goal.invariant-loop-first
invariant-loop-first l =
    shadow (Utf8 l.rest) × (dotted_property l.name (view l.item) ≡ dotted_property l.rest (found_or_nil (option_map (λ v. view v.now) l.found)))

abbrev pub decreases-loop-first : goal.decreases-loop-first
decreases-loop-first l = length l.rest
