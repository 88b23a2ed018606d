-- Pages that are put in the place of those before.
use Rattle.std.specs.Prelude.{◌≡◌, Bool, true, false, cond, List, [], ◌∷◌, ◌++◌, ◌||◌, String, string_bytes}
use Rattle.std.specs.List.{list_any}
use Rattle.liquid_core.specs.Environment.{Names}
use Rattle.std.proofs.Common.{append_assoc}
use Rattle.std.specs.declared.alloc.Global.{Global}
use mathlib.Core.Path.{refl, sym, ap, ◌∙◌}
use Rattle.liquid_model.specs.Texts.{Text}
use Rattle.liquid_model.proofs.Maps.{same_key}
use Rattle.liquid_evaluation.specs.Tree.{Nodes}
use Rattle.liquid_evaluation.specs.Names.{nodes_names, partials_names}
use Rattle.liquid_language.specs.Entries.{seen, placed}
use Rattle.liquid_syntax.specs.Templates.{tree_of}
use Rattle.liquid_syntax.specs.declared.template.Template.{Template}
use Rattle.liquid_syntax.proofs.Held.{AllAbove, Ascend, apart, below_other, names}
use Rattle.liquid_syntax.specs.inside.NameVisitors.{any_both, or_false}
use Rattle.liquid_engine.specs.Pages.{Shown, page_by}
use Rattle.liquid_site.specs.Contents.{Trees, Contents, Pages, page_of, all_pages, pages_from_scratch, mentions_any}
use Rattle.liquid_site.specs.inside.Fresh.{selects, selected, all_placed}
use Rattle.liquid_site.specs.declared.selection.Selection.TheVariants.{All}
use Rattle.liquid_site.specs.Steps.{refreshed}
use Rattle.liquid_site.proofs.KeptPages.{refreshed_all}

placed_after : (name : Text) (y : Shown) (qs ps : Pages) → AllAbove name qs → all_placed qs ((name, y) ∷ ps) ≡ (name, y) ∷ all_placed qs ps
placed_after name y [] ps h = refl
placed_after name y (q ∷ qs) ps h = ap (λ b. all_placed qs (cond b ((name, q.1) ∷ ps) ((name, y) ∷ placed q.0 q.1 ps))) (below_other name q.0 h.0) ∙ placed_after name y qs (placed q.0 q.1 ps) h.1

module _ (test : Nodes → Bool) (show : Nodes → Shown) where
  selected_above : (name : Text) (ts : Trees) → AllAbove name ts → AllAbove name (all_pages show (selected test ts))
  selected_above name [] h = tt
  selected_above name (p ∷ ts) h = on (test p.1) (selected_above name ts h.1)
    where
      on : (b : Bool) → AllAbove name (all_pages show (selected test ts)) → AllAbove name (all_pages show (cond b (p ∷ selected test ts) (selected test ts)))
      on true rest = (h.0, rest)
      on false rest = rest

  placed_all : (before : Nodes → Shown) (ts : Trees) → Ascend ts → all_placed (all_pages show (selected test ts)) (all_pages before ts) ≡ refreshed test show ts (all_pages before ts)
  placed_all before [] h = refl
  placed_all before (p ∷ ts) h = on (test p.1) (placed_all before ts h.1)
    where
      on : (b : Bool) → all_placed (all_pages show (selected test ts)) (all_pages before ts) ≡ refreshed test show ts (all_pages before ts)
          → all_placed (all_pages show (cond b (p ∷ selected test ts) (selected test ts))) ((p.0, before p.1) ∷ all_pages before ts) ≡ (p.0, cond b (show p.1) (before p.1)) ∷ refreshed test show ts (all_pages before ts)
      on true rest =
          ap (λ b. all_placed (all_pages show (selected test ts)) (cond b ((p.0, show p.1) ∷ all_pages before ts) ((p.0, before p.1) ∷ placed p.0 (show p.1) (all_pages before ts)))) (same_key p.0)
          ∙ placed_after p.0 (show p.1) (all_pages show (selected test ts)) (all_pages before ts) (selected_above p.0 ts h.0)
          ∙ ap (λ l. (p.0, show p.1) ∷ l) rest
      on false rest = placed_after p.0 (before p.1) (all_pages show (selected test ts)) (all_pages before ts) (selected_above p.0 ts h.0) ∙ ap (λ l. (p.0, before p.1) ∷ l) rest

  -- what isn't rendered again shows what it did: then all pages are as from scratch
  pub placed_from_scratch : (before : Nodes → Shown) (ts : Trees) → Ascend ts → ((nodes : Nodes) → test nodes ≡ false → show nodes ≡ before nodes) → all_placed (all_pages show (selected test ts)) (all_pages before ts) ≡ all_pages show ts
  placed_from_scratch before ts h same = placed_all before ts h ∙ refreshed_all test show before same ts

-- ---- which pages are selected

pub partials_mention : (partials : Trees) (names : Names) (nodes : Nodes) → list_any names (partials_names partials) ≡ true → true ≡ mentions_any partials names nodes
partials_mention partials names nodes h = sym (any_both (nodes_names nodes) (partials_names partials) names ∙ ap (λ b. list_any names (nodes_names nodes) || b) h ∙ or_true (list_any names (nodes_names nodes)))
  where
    or_true : (b : Bool) → (b || true) ≡ true
    or_true true = refl
    or_true false = refl

pub page_mentions : (partials : Trees) (names : Names) (nodes : Nodes) → list_any names (partials_names partials) ≡ false → list_any names (nodes_names nodes) ≡ mentions_any partials names nodes
page_mentions partials names nodes h = or_false (list_any names (nodes_names nodes)) ∙ sym (any_both (nodes_names nodes) (partials_names partials) names ∙ ap (λ b. list_any names (nodes_names nodes) || b) h)

pub all_selected : (ts : Trees) → selected (selects All) ts ≡ ts
all_selected [] = refl
all_selected (p ∷ ts) = ap (λ l. p ∷ l) (all_selected ts)

pub names_shown : (show : Nodes → Shown) (ts : Trees) → names (all_pages show ts) ≡ names ts
names_shown show [] = refl
names_shown show (p ∷ ts) = ap (λ l. p.0 ∷ l) (names_shown show ts)

-- ---- what a change of the partials renders again

pub exchanged_pages : (c : Contents) (partials : Trees) → Ascend c.pages
    → (let show = page_by c.setting partials c.«data» in all_placed (all_pages show (selected (selects All) c.pages)) (pages_from_scratch c) ≡ all_pages show c.pages)
exchanged_pages c partials h = placed_from_scratch (selects All) (page_by c.setting partials c.«data») (page_of c) c.pages h (λ n k. absurd (apart k))

-- ---- a step of the rendering

pub taken : (test : Nodes → Bool) (show : Nodes → Shown) (done all : Pages) (e : String Global × Template) (left : List (String Global × Template)) (q : Text × Shown) → test (tree_of e.1) ≡ true → q ≡ (string_bytes e.0, show (tree_of e.1))
    → done ++ all_pages show (selected test (seen tree_of (e ∷ left))) ≡ all → (done ++ q ∷ []) ++ all_pages show (selected test (seen tree_of left)) ≡ all
taken test show done all e left q h is whole =
    let w = selected test (seen tree_of left) in
    append_assoc done (q ∷ []) (all_pages show w) ∙ ap (λ r. done ++ r ∷ all_pages show w) is
    ∙ sym (ap (λ b. done ++ all_pages show (cond b ((string_bytes e.0, tree_of e.1) ∷ w) w)) h) ∙ whole

pub passed : (test : Nodes → Bool) (show : Nodes → Shown) (done all : Pages) (e : String Global × Template) (left : List (String Global × Template)) → test (tree_of e.1) ≡ false
    → done ++ all_pages show (selected test (seen tree_of (e ∷ left))) ≡ all → done ++ all_pages show (selected test (seen tree_of left)) ≡ all
passed test show done all e left h whole =
    let w = selected test (seen tree_of left) in
    sym (ap (λ b. done ++ all_pages show (cond b ((string_bytes e.0, tree_of e.1) ∷ w) w)) h) ∙ whole
