-- Data that are read as far as uses ask show the pages of the whole.
use Rattle.std.proofs.Common.{◌≡◌, ℕ, List, Ok, subst}
use Rattle.liquid_model.specs.Data.{Pairs}
use Rattle.liquid_model.specs.Skipping.{AlikeKeys}
use Rattle.liquid_model.specs.Texts.{Text}
use Rattle.liquid_model.specs.UseViews.{uses_view}
use Rattle.liquid_model.specs.View.{pairs_view}
use Rattle.liquid_model.specs.FilterAnswers.{FilterAnswer}
use Rattle.liquid_core.specs.Held.{Outer, map_of}
use Rattle.liquid_core.specs.Hosts.{no_host}
use Rattle.liquid_core.specs.declared.missing_value.Missing.{Missing}
use Rattle.liquid_evaluation.specs.Tree.{Nodes}
use Rattle.liquid_json.specs.Asked.{IsAlikeData}
use Rattle.liquid_json.specs.Json.{data_of}
use Rattle.liquid_engine.specs.HostedPages.{hosted_page}
use Rattle.liquid_engine.specs.Pages.{fault_of, page_in}
use Rattle.liquid_syntax.specs.Templates.{partials_of}
use Rattle.liquid_syntax.specs.declared.partials.Partials.{Partials}
use Rattle.liquid_uses.specs.Covered.{SeesDataAlone}
use Rattle.liquid_c.specs.Served.{UsesByName}
use Rattle.liquid_c.specs.DataFor.{IsReadFor, IsDataRead, SamePages}

-- a run sees no more of its data than was read
hosted_same : (uses : UsesByName) (p : Partials) (nodes : Nodes) (ps qs : Pairs) → AlikeKeys (uses_view uses) ps qs → SeesDataAlone (uses_view uses) p nodes
    → (missing : Missing) (named : Text → FilterAnswer) (depth : ℕ) → hosted_page missing named depth (partials_of p) (map_of ps) nodes ≡ hosted_page missing named depth (partials_of p) (map_of qs) nodes
unfolding map_of hosted_page
hosted_same uses p nodes ps qs alike alone missing named depth =
    let runs = alone named depth missing ps qs alike in
    λ i. record { text = runs.0 i; fault = fault_of (runs.1 i) }

-- without filters of a host it is the page where each name stands for none
page_same : (uses : UsesByName) (p : Partials) (nodes : Nodes) (ps qs : Pairs) → AlikeKeys (uses_view uses) ps qs → SeesDataAlone (uses_view uses) p nodes
    → (missing : Missing) (depth : ℕ) → page_in missing depth (partials_of p) (map_of ps) nodes ≡ page_in missing depth (partials_of p) (map_of qs) nodes
unfolding page_in hosted_page
page_same uses p nodes ps qs alike alone missing depth = hosted_same uses p nodes ps qs alike alone missing no_host depth

same_pages : (uses : UsesByName) (nodes : Nodes) (ps qs : Pairs) → AlikeKeys (uses_view uses) ps qs → (p : Partials) → SeesDataAlone (uses_view uses) p nodes → SamePages (partials_of p) nodes ps qs
same_pages uses nodes ps qs alike p alone = record {
  page = page_same uses p nodes ps qs alike alone;
  hosted = hosted_same uses p nodes ps qs alike alone;
}

pub read_for : (uses : UsesByName) (ps qs : Pairs) → AlikeKeys (uses_view uses) ps qs → IsReadFor uses ps qs
read_for uses ps qs alike = record {
  alike = alike;
  pages = λ partials nodes covers. subst (λ ts. SamePages ts nodes ps qs) covers.same (same_pages uses nodes ps qs alike covers.over covers.alone);
}

pub data_read : (uses : UsesByName) (source : List ℕ) (d : Outer) → IsAlikeData (uses_view uses) (data_of source) (pairs_view d.entries) → IsDataRead uses source d
data_read uses source d h = (h.0, h.1, read_for uses h.0 (pairs_view d.entries) h.2)
