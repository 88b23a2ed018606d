-- What partials were found to read of what is around the place that includes them.
--     reads_in es name      the names that the partial of a name reads, after these entries
--     included_reads R i      what the partial reads that a node includes, but for the pairs there
--     SlotKnown es name held      the partial that a slot holds reads no other names of the data
use Rattle.std.specs.Prelude.{T, true, false, List, [], ◌∷◌, Option, Some, None, String}
use Rattle.std.specs.Prelude.{string_bytes}
use Rattle.std.specs.declared.alloc.Global.{Global}
use Rattle.liquid_core.specs.Environment.{Names}
use Rattle.liquid_language.specs.Entries.{seen}
use Rattle.liquid_model.specs.Maps.{listed}
use Rattle.liquid_model.specs.Texts.{Text}
use Rattle.liquid_evaluation.specs.Names.{include_name, target_names}
use Rattle.liquid_meaning.specs.FreeNames.{PartialsRead, nodes_reads, unbound}
use Rattle.liquid_syntax.specs.Flats.{bindings_view}
use Rattle.liquid_syntax.specs.NameSets.{mentioned_in_set}
use Rattle.liquid_syntax.specs.Templates.{tree_of}
use Rattle.liquid_syntax.specs.declared.template.Template.{Template}
use Rattle.liquid_uses.specs.declared.readings.Reading.{Reading}
use Rattle.liquid_uses.specs.declared.readings.Reading.TheVariants.{Any, Only}
use Rattle.liquid_uses.specs.declared.partial_reads.Targets.{Targets}
use Rattle.liquid_uses.specs.declared.partial_reads.Targets.TheVariants.{Each, Include}
use Rattle.liquid_uses.specs.declared.partial_reads.Included.{Included}
use Rattle.liquid_uses.specs.declared.partial_reads.Included.TheVariants.{Nothing, Unknown, Named}

abbrev pub Entry : Type 0
Entry = String Global × Reading

abbrev pub reading_names : Reading → Names
reading_names Any q = true
reading_names (Only names) q = mentioned_in_set names q

-- no partial has a name of which nothing was found
abbrev pub found_names : Option Reading → Names
found_names None q = false
found_names (Some r) q = reading_names r q

-- without a name a partial may read any name
abbrev pub reads_in : List Entry → PartialsRead
reads_in es None q = true
reads_in es (Some name) q = found_names (listed (seen (λ r. r) es) name) q

-- ---- where a node includes a partial

-- the names that the pairs bind
abbrev pub targets_of : Targets → List Text
targets_of (Each pairs) = target_names (bindings_view pairs.now)
targets_of (Include pairs) = include_name (bindings_view pairs.now)

abbrev pub included_reads : PartialsRead → Included → Names
included_reads R Nothing q = false
included_reads R Unknown q = true
included_reads R (Named name targets) q = unbound (targets_of targets) (R (Some name.now)) q

-- ---- the slots of partials

abbrev pub SlotKnown : List Entry → Text → Option Template → Type 0
SlotKnown es name None = Unit {0}
SlotKnown es name (Some t) = (q : Text) → T (nodes_reads (reads_in es) (tree_of t) q)
    → T (reads_in es (Some name) q)

abbrev pub SlotsKnown : List Entry → List (String Global × Option Template) → Type 0
SlotsKnown es [] = Unit {0}
SlotsKnown es (slot ∷ more) = SlotKnown es (string_bytes slot.0) slot.1 × SlotsKnown es more
