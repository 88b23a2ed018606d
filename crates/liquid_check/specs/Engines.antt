-- The engine that templates are written for.
use Rattle.std.specs.Prelude.{Option, Some, None}
use Rattle.liquid_commands.specs.declared.words.FilterSet.{FilterSet}
use Rattle.liquid_commands.specs.declared.words.FilterSet.TheVariants as sets
use Rattle.liquid_warnings.specs.declared.written_for.WrittenFor.{WrittenFor}
use Rattle.liquid_warnings.specs.declared.written_for.WrittenFor.TheVariants as engines

-- the one whose filters a set has
abbrev pub engine_of : Option FilterSet → WrittenFor
engine_of (Some sets.Jekyll) = engines.Jekyll
engine_of (Some sets.Shopify) = engines.Shopify
engine_of _ = engines.Bikleinu
