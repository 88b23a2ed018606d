-- Data that are read as far as uses ask.
--     IsReadFor uses whole read      no page that sees no more than the uses ask tells them apart
use Rattle.std.specs.Prelude.{◌≡◌, ℕ, List, Option, Some, Result, Ok, Err}
use Rattle.std.specs.Arc.{arc_value}
use Rattle.liquid_model.specs.Answer.{Faulted}
use Rattle.liquid_model.specs.Data.{Pairs}
use Rattle.liquid_model.specs.Skipping.{AlikeKeys}
use Rattle.liquid_model.specs.Texts.{Text}
use Rattle.liquid_model.specs.UseViews.{uses_view}
use Rattle.liquid_model.specs.View.{pairs_view}
use Rattle.liquid_model.specs.FilterAnswers.{FilterAnswer}
use Rattle.liquid_core.specs.Held.{Outer, map_of}
use Rattle.liquid_core.specs.declared.missing_value.Missing.{Missing}
use Rattle.liquid_evaluation.specs.Tree.{Nodes}
use Rattle.liquid_json.specs.Json.{data_of}
use Rattle.liquid_engine.specs.HostedPages.{hosted_page}
use Rattle.liquid_engine.specs.Pages.{page_in}
use Rattle.liquid_c.specs.Calls.{ForUtf8Text}
use Rattle.liquid_c.specs.Served.{Covers, UsesByName}
use Rattle.liquid_c.specs.declared.content.Content.{Content}
use Rattle.liquid_c.specs.declared.content.Content.TheVariants as content
use Rattle.liquid_c.specs.declared.refusal.Refusal.{Refusal}
use Rattle.liquid_c.specs.declared.refusal.Refusal.TheVariants.{OtherHandle}

-- the page over the one data is that over the other, whatever becomes of a missing value, also
-- with filters of a host
pub record SamePages (partials : List (Text × Nodes)) (nodes : Nodes) (whole read : Pairs) : Type 0
  where
    pub page : (missing : Missing) (depth : ℕ) →
        page_in missing depth partials (map_of whole) nodes
        ≡ page_in missing depth partials (map_of read) nodes
    pub hosted : (missing : Missing) (named : Text → FilterAnswer) (depth : ℕ) →
        hosted_page missing named depth partials (map_of whole) nodes
        ≡ hosted_page missing named depth partials (map_of read) nodes

-- the data are alike in what the uses ask, and each template with partials whose runs see no more
-- shows the same pages over both
pub record IsReadFor (uses : UsesByName) (whole read : Pairs) : Type 0 where
  pub alike : AlikeKeys (uses_view uses) whole read
  pub pages : (partials : List (Text × Nodes)) (nodes : Nodes) → Covers partials nodes uses →
      SamePages partials nodes whole read

-- data that are read so from the text of JSON
abbrev pub IsDataRead : UsesByName → Text → Outer → Type 0
IsDataRead uses source d = (whole : Pairs) × (data_of source ≡ Ok whole)
    × IsReadFor uses whole (pairs_view d.entries)

-- such data, with the uses;  or why it gives none, as where all is read
abbrev pub ReadsFor : UsesByName → Text → Result Content Refusal → Type 0
ReadsFor uses source (Ok (content.DataPart d kept)) =
    (arc_value kept ≡ uses) × IsDataRead uses source d
ReadsFor uses source (Ok (content.Fault e)) = Faulted e.kind (data_of source)
ReadsFor uses source _ = ⊥

abbrev pub IsDataFor : List ℕ → Option Content → Result Content Refusal → Type 0
IsDataFor source (Some (content.Paths uses it)) answer =
    ForUtf8Text source (ReadsFor (arc_value uses) source) answer
IsDataFor source _ answer = answer ≡ Err OtherHandle
