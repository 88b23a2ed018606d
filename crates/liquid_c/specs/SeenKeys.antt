-- Keys of what pages can see of data.
use Rattle.std.specs.Prelude.{◌≡◌, ℕ, List, Option, Some, Result, Ok, Err, string_bytes}
use Rattle.std.specs.Arc.{arc_value}
use Rattle.liquid_model.specs.Answer.{Faulted}
use Rattle.liquid_model.specs.Texts.{Text}
use Rattle.liquid_model.specs.UseViews.{uses_view}
use Rattle.liquid_evaluation.specs.Tree.{Nodes}
use Rattle.liquid_json.specs.Json.{data_of}
use Rattle.liquid_seen_keys.specs.Keys.{IsKeyOf}
use Rattle.liquid_c.specs.Calls.{ForUtf8Text}
use Rattle.liquid_c.specs.DataFor.{SamePages}
use Rattle.liquid_c.specs.Served.{Covers, UsesByName}
use Rattle.liquid_c.specs.declared.content.Content.{Content}
use Rattle.liquid_c.specs.declared.content.Content.TheVariants as content
use Rattle.liquid_c.specs.declared.refusal.Refusal.{Refusal}
use Rattle.liquid_c.specs.declared.refusal.Refusal.TheVariants.{OtherHandle}

-- the text is a key of the source, and each template with partials whose runs see no more than the
-- uses ask shows the same pages over the source's data as over those that the key is: so equal keys
-- give equal pages
pub record IsSeenFor (uses : UsesByName) (source it : Text) : Type 0 where
  pub key : IsKeyOf (uses_view uses) source it
  pub pages : (partials : List (Text × Nodes)) (nodes : Nodes) → Covers partials nodes uses →
      SamePages partials nodes key.whole key.seen

-- the key of a source, or why its text gives no data
abbrev pub KeysSeen : UsesByName → Text → Result Content Refusal → Type 0
KeysSeen uses source (Ok (content.Key it)) = IsSeenFor uses source (string_bytes it)
KeysSeen uses source (Ok (content.Fault e)) = Faulted e.kind (data_of source)
KeysSeen uses source _ = ⊥

abbrev pub IsSeenKey : List ℕ → Option Content → Result Content Refusal → Type 0
IsSeenKey source (Some (content.Paths uses it)) answer =
    ForUtf8Text source (KeysSeen (arc_value uses) source) answer
IsSeenKey source _ answer = answer ≡ Err OtherHandle
