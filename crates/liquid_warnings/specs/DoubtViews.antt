-- Doubts, as contracts see them.
use Rattle.liquid_model.specs.View.{view}
use Rattle.liquid_warnings.specs.Doubts as seen
use Rattle.liquid_warnings.specs.Views.{lack_view}
use Rattle.liquid_warnings.specs.declared.doubt.Doubt.{Doubt}
use Rattle.liquid_warnings.specs.declared.doubt.Doubt.TheVariants.{Lacks, NoList, PastEnd, NoDate}
use Rattle.liquid_warnings.specs.declared.doubt.Doubt.TheVariants.{AlwaysTrue, NoText, NumberText}
use Rattle.liquid_warnings.specs.declared.doubt.Doubt.TheVariants.{NoKey, NoNumber, NoTruth}
use Rattle.liquid_warnings.specs.declared.doubt.Doubt.TheVariants.{TestedSize, TruthText}
use Rattle.liquid_warnings.specs.declared.doubt.Doubt.TheVariants.{FalseDefault, NumberDate}
use Rattle.liquid_warnings.specs.declared.doubt.Doubt.TheVariants.{WholeMap}

abbrev pub doubt_view : Doubt → seen.Doubt
doubt_view (Lacks l) = seen.lacks (lack_view l)
doubt_view (NoList v) = seen.no_list (view v.now)
doubt_view (PastEnd n) = seen.past_end n
doubt_view (NoDate s) = seen.no_date s.now
doubt_view (NumberText s) = seen.number_text s.now
doubt_view (TruthText s) = seen.truth_text s.now
doubt_view (NoText v) = seen.no_text (view v.now)
doubt_view (AlwaysTrue v) = seen.always_true (view v.now)
doubt_view (NoNumber v) = seen.no_number (view v.now)
doubt_view (NoTruth v) = seen.no_truth (view v.now)
doubt_view WholeMap = seen.whole_map
doubt_view NoKey = seen.no_key
doubt_view TestedSize = seen.tested_size
doubt_view FalseDefault = seen.false_default
doubt_view NumberDate = seen.number_date
