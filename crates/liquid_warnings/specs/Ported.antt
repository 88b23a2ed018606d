-- The engine that templates are written for.
--     is_for_ruby e      Liquid for Ruby, by which Jekyll and Shopify render
--     is_for_jekyll e      Jekyll
use Rattle.std.specs.Prelude.{Bool, true, false}
use Rattle.liquid_warnings.specs.declared.written_for.WrittenFor.{WrittenFor}
use Rattle.liquid_warnings.specs.declared.written_for.WrittenFor.TheVariants.{Bikleinu, Shopify}
use Rattle.liquid_warnings.specs.declared.written_for.WrittenFor.TheVariants.{Jekyll}

abbrev pub is_for_ruby : WrittenFor → Bool
is_for_ruby Bikleinu = false
is_for_ruby Shopify = true
is_for_ruby Jekyll = true

abbrev pub is_for_jekyll : WrittenFor → Bool
is_for_jekyll Jekyll = true
is_for_jekyll _ = false
