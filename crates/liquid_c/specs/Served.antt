-- Runs over data that were read for paths.
use Rattle.std.specs.Prelude.{◌≡◌, ◌⊎◌, List, Option, Some, None, Result, Ok, Err, String, false, ⊤}
use Rattle.std.specs.Arc.{arc_value}
use Rattle.std.specs.BTreeMap.{BTreeMap}
use Rattle.std.specs.declared.alloc.Global.{Global}
use Rattle.liquid_model.specs.Texts.{Text}
use Rattle.liquid_model.specs.Uses.{includes_fields, parts, uncounted}
use Rattle.liquid_model.specs.UseViews.{members_view, uses_view}
use Rattle.liquid_model.specs.declared.error.Error.{Error}
use Rattle.liquid_model.specs.declared.error.ErrorKind.TheVariants.{Memory}
use Rattle.liquid_model.specs.declared.uses.Use.{Use}
use Rattle.liquid_evaluation.specs.Tree.{Nodes}
use Rattle.liquid_syntax.specs.Templates.{partials_of}
use Rattle.liquid_syntax.specs.declared.partials.Partials.{Partials}
use Rattle.liquid_uses.specs.Covered.{SeesDataAlone}
use Rattle.liquid_c.specs.declared.content.Content.{Content}
use Rattle.liquid_c.specs.declared.content.Content.TheVariants as content
use Rattle.liquid_c.specs.declared.refusal.Refusal.{Refusal}
use Rattle.liquid_c.specs.declared.refusal.Refusal.TheVariants.{OtherPaths}

abbrev pub UsesByName : Type 0
UsesByName = BTreeMap (String Global) Use

-- a run over these partials sees no more of its data than the uses ask
pub record Covers (partials : List (Text × Nodes)) (nodes : Nodes) (uses : UsesByName) : Type 0
  where
    pub over : Partials
    pub same : partials_of over ≡ partials
    pub alone : SeesDataAlone (uses_view uses) over nodes

-- it isn't begun: what is found that it asks for isn't all among the uses; or memory ran out
pub data Unserves (uses : UsesByName) (partials : List (Text × Nodes)) (nodes : Nodes)
    : Result Content Refusal → Type 0 where
  asks_more : (asked : UsesByName) → Covers partials nodes asked →
      includes_fields (parts (members_view uses.entries) uncounted) (members_view asked.entries)
      ≡ false → Unserves uses partials nodes (Err OtherPaths)
  no_memory : (e : Error) → e.kind ≡ Memory → Unserves uses partials nodes (Ok (content.Fault e))

-- data that were read for paths serve a run that asks for no more; any other data serve each
abbrev pub IsServed : Option Content → Option (List (Text × Nodes)) → Nodes → Type 0
IsServed (Some (content.DataPart d uses)) (Some partials) nodes =
    Covers partials nodes (arc_value uses)
IsServed «data» partials nodes = ⊤

abbrev pub IsUnserved : Option Content → Option (List (Text × Nodes)) → Nodes
    → Result Content Refusal → Type 0
IsUnserved (Some (content.DataPart d uses)) (Some partials) nodes answer =
    Unserves (arc_value uses) partials nodes answer
IsUnserved «data» partials nodes answer = ⊥

-- R holds of a run that the data serve, and else it isn't begun
abbrev pub OverData : Option Content → Option (List (Text × Nodes)) → Nodes
    → (Result Content Refusal → Type 0) → Result Content Refusal → Type 0
OverData «data» partials nodes R answer = (IsServed «data» partials nodes × R answer)
    ⊎ IsUnserved «data» partials nodes answer
