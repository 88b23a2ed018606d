-- What a site holds, and the pages that rendering all of it from nothing gives.
--     Contents      page templates, partials and data, and how a run over them goes
--     page_of contents nodes      what a template shows in a new run over these contents
--     pages_from_scratch contents      that of each page
--     mentions partials name nodes      whether a page's template or a partial mentions the name
--     mentions_any partials names nodes      or one of the names
use Rattle.std.specs.Prelude.{Bool, List, map}
use Rattle.std.specs.List.{list_any}
use Rattle.liquid_model.specs.Texts.{Text}
use Rattle.liquid_model.specs.Data.{Datum}
use Rattle.liquid_model.specs.Maps.{Map}
use Rattle.liquid_core.specs.Environment.{Names}
use Rattle.liquid_evaluation.specs.Tree.{Nodes}
use Rattle.liquid_evaluation.specs.Names.{run_names, mentioned}
use Rattle.liquid_engine.specs.Pages.{Shown, page_by}
use Rattle.liquid_engine.specs.declared.run_setting.RunSetting.{RunSetting}

-- templates by name, in the order of the names
abbrev pub Trees : Type 0
Trees = List (Text × Nodes)

pub record Contents : Type 0 where
  pub setting : RunSetting
  pub pages : Trees
  pub partials : Trees
  pub «data» : Map Datum

abbrev pub page_of : Contents → Nodes → Shown
page_of contents nodes = page_by contents.setting contents.partials contents.«data» nodes

-- pages by name
abbrev pub Pages : Type 0
Pages = List (Text × Shown)

abbrev pub all_pages : (Nodes → Shown) → Trees → Pages
all_pages show pages = map (λ p. (p.0, show p.1)) pages

abbrev pub pages_from_scratch : Contents → Pages
pages_from_scratch contents = all_pages (page_of contents) contents.pages

abbrev pub mentions : Trees → Text → Nodes → Bool
mentions partials name nodes = mentioned (run_names partials nodes) name

abbrev pub mentions_any : Trees → Names → Nodes → Bool
mentions_any partials names nodes = list_any names (run_names partials nodes)
