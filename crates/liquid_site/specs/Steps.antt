-- Changes of a site, with their sources read.
--     stepped s contents      the contents after the step
--     touched s contents      the test for the pages that it renders again;   rendered_by s
--                             contents      how many these are
--     kept_by s contents pages      the pages, of which those alone are rendered again
use Rattle.std.specs.Prelude.{◌≡◌, ℕ, ◌+◌, min, Bool, true, false, cond, List, [], ◌∷◌, length}
use Rattle.std.specs.Prelude.{filter, not, Option, Some, None, is_some}
use Rattle.liquid_model.specs.Texts.{Text}
use Rattle.liquid_model.specs.Data.{Datum}
use Rattle.liquid_model.specs.Maps.{Map, empty, listed}
use Rattle.liquid_model.specs.Order.{same}
use Rattle.liquid_core.specs.DataChanges.{with_value}
use Rattle.liquid_core.specs.Environment.{Names}
use Rattle.liquid_evaluation.specs.Tree.{Nodes}
use Rattle.liquid_language.specs.Entries.{put_entry, without}
use Rattle.liquid_engine.specs.Pages.{Shown, page_by}
use Rattle.liquid_engine.specs.declared.run_setting.RunSetting.{RunSetting}
use Rattle.liquid_site.specs.Contents.{Trees, Contents, page_of, Pages, pages_from_scratch}
use Rattle.liquid_site.specs.Contents.{mentions, mentions_any}

pub data Step : Type 0 where
  set_page : Text → Nodes → Step
  remove_page : Text → Step
  set_partial : Text → Nodes → Step
  remove_partial : Text → Step
  set_value : Text → Datum → Step
  remove_value : Text → Step
  set_data : Map Datum → Step

-- whether the values of two data are the same under a name, or neither has one
abbrev pub is_same : Option Datum → Option Datum → Bool
is_same None None = true
is_same (Some d) (Some e) = same d e
is_same _ _ = false

-- the names under which two data differ
abbrev pub differs : Map Datum → Map Datum → Names
differs old new name = not (is_same (old name) (new name))

-- the contents of a new site
abbrev pub no_contents : RunSetting → Contents
no_contents setting = record { setting = setting; pages = []; partials = []; «data» = empty }

-- a set replaces, and a removal of what isn't there changes nothing
abbrev pub stepped : Step → Contents → Contents
stepped (set_page name t) c = record c { pages = put_entry name t c.pages }
stepped (remove_page name) c = record c { pages = without name c.pages }
stepped (set_partial name t) c = record c { partials = put_entry name t c.partials }
stepped (remove_partial name) c = record c { partials = without name c.partials }
stepped (set_value name d) c = record c { «data» = with_value c.«data» name (Some d) }
stepped (remove_value name) c = record c { «data» = with_value c.«data» name None }
stepped (set_data new) c = record c { «data» = new }

-- how many of the pages mention a name, in their templates or in a partial
abbrev pub mentioning : Contents → Text → ℕ
mentioning c name = length (filter (λ p. mentions c.partials name p.1) c.pages)

-- how many of them mention one of the names
abbrev pub mentioning_any : Contents → Names → ℕ
mentioning_any c names = length (filter (λ p. mentions_any c.partials names p.1) c.pages)

-- how many pages a step renders again
abbrev pub rendered_by : Step → Contents → ℕ
rendered_by (set_page name t) c = 1
rendered_by (remove_page name) c = 0
rendered_by (set_partial name t) c = length c.pages
rendered_by (remove_partial name) c = cond (is_some (listed c.partials name)) (length c.pages) 0
rendered_by (set_value name d) c = mentioning c name
rendered_by (remove_value name) c = cond (is_some (c.«data» name)) (mentioning c name) 0
rendered_by (set_data new) c = mentioning_any c (differs c.«data» new)

-- a count that stays at its greatest value
abbrev pub saturated_sum : ℕ → ℕ → ℕ
saturated_sum count n = min (count + n) 18446744073709551615

-- ---- rendering again what was touched alone

-- the pages of the templates, of which those that pass the test are shown anew, and the others as
-- they were
abbrev pub refreshed : (Nodes → Bool) → (Nodes → Shown) → Trees → Pages → Pages
refreshed test show (p ∷ ps) (q ∷ qs) = (p.0, cond (test p.1) (show p.1) q.1) ∷
    refreshed test show ps qs
refreshed test show _ _ = []

-- the pages after a step
abbrev pub kept_by : Step → Contents → Pages → Pages
kept_by (set_page name t) c pages = put_entry name (page_of c t) pages
kept_by (remove_page name) c pages = without name pages
kept_by (set_partial name t) c pages =
    refreshed (λ n. true) (page_of (stepped (set_partial name t) c)) c.pages pages
kept_by (remove_partial name) c pages = refreshed (λ n. is_some (listed c.partials name))
    (page_of (stepped (remove_partial name) c)) c.pages pages
kept_by (set_value name d) c pages =
    refreshed (mentions c.partials name) (page_of (stepped (set_value name d) c)) c.pages pages
kept_by (remove_value name) c pages =
    refreshed (λ n. cond (is_some (c.«data» name)) (mentions c.partials name n) false)
    (page_of (stepped (remove_value name) c)) c.pages pages
kept_by (set_data new) c pages = refreshed (mentions_any c.partials (differs c.«data» new))
    (page_of (stepped (set_data new) c)) c.pages pages

-- ---- the laws

-- a value under a name that neither the page's template nor a partial mentions changes nothing of
-- the page
abbrev pub UntouchedPages : Type 0
UntouchedPages = (contents : Contents) (name : Text) (d : Option Datum) (nodes : Nodes) →
    mentions contents.partials name nodes ≡ false
    → page_by contents.setting contents.partials (with_value contents.«data» name d) nodes ≡
    page_of contents nodes

-- rendering again what a step touches gives what rendering all from scratch gives
abbrev pub KeptIsFromScratch : Type 0
KeptIsFromScratch = (s : Step) (contents : Contents) →
    kept_by s contents (pages_from_scratch contents) ≡ pages_from_scratch (stepped s contents)

-- ---- whole runs

abbrev pub all_stepped : List Step → Contents → Contents
all_stepped [] c = c
all_stepped (s ∷ ss) c = all_stepped ss (stepped s c)

abbrev pub all_kept : List Step → Contents → Pages → Pages
all_kept [] c pages = pages
all_kept (s ∷ ss) c pages = all_kept ss (stepped s c) (kept_by s c pages)

-- after any list of steps the pages are those that rendering the contents from scratch gives
abbrev pub PagesKept : Type 0
PagesKept = (setting : RunSetting) (steps : List Step) → all_kept steps (no_contents setting) [] ≡
    pages_from_scratch (all_stepped steps (no_contents setting))
