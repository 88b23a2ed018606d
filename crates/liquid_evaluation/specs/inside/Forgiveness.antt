-- Where something is given in the place of a refused nil.
use Rattle.std.specs.Prelude.{Bool, true, false}
use Rattle.liquid_model.specs.Data.{Datum, nil}
use Rattle.liquid_core.specs.declared.missing_value.Missing.{Missing}
use Rattle.liquid_core.specs.declared.missing_value.Missing.TheVariants.{IsFault, IsNil}
use Rattle.liquid_evaluation.specs.Tree.{Filter, existing, hosted}

-- a missing value is nil, the filter is no host's, and the input is nil
abbrev pub forgives_nil : Missing → Filter → Datum → Bool
forgives_nil IsFault filter d = false
forgives_nil IsNil (hosted name) d = false
forgives_nil IsNil (existing kind) nil = true
forgives_nil IsNil (existing kind) d = false
