-- Values under names that are not mentioned change nothing of a page.
use Rattle.std.specs.Prelude.{◌≡◌, ℕ, Bool, true, false, cond, not, ◌||◌, T, List, [], ◌∷◌, Option, Some, None}
use Rattle.std.specs.List.{list_any}
use mathlib.Core.Path.{refl, sym, ap, subst, ◌∙◌}
use Rattle.liquid_model.specs.Texts.{Text, same_text}
use Rattle.liquid_model.specs.Data.{Datum}
use Rattle.liquid_model.specs.Maps.{Map}
use Rattle.liquid_model.specs.Order.{same}
use Rattle.liquid_model.specs.OrderLaws.{same_Decides}
use Rattle.liquid_core.specs.Environment.{Names, cut_map}
use Rattle.liquid_core.specs.declared.missing_value.Missing.{Missing}
use Rattle.liquid_evaluation.specs.Tree.{Nodes}
use Rattle.liquid_evaluation.specs.Names.{run_names, mentioned}
use Rattle.liquid_meaning.specs.Isolation.{Agree}
use Rattle.liquid_meaning.proofs.Maps.{AgreeAt, same_cut}
use Rattle.liquid_model.proofs.Maps.{same_text_equal}
use Rattle.liquid_meaning.proofs.Changes.{agreeing_runs}
use Rattle.liquid_engine.specs.Pages.{fault_of, page_by, page_in, run_environment, setting_over}
use Rattle.liquid_engine.specs.declared.run_setting.RunSetting.{RunSetting}
use Rattle.liquid_syntax.proofs.Held.{apart}
use Rattle.liquid_site.specs.Contents.{Trees, Contents, page_of, mentions_any}
use Rattle.liquid_core.specs.DataChanges.{with_value}
use Rattle.liquid_site.specs.Steps.{is_same, differs, UntouchedPages}

agree_other : (N : Names) (m : Map Datum) (name : Text) (d : Option Datum) → N name ≡ false → AgreeAt N (with_value m name d) m
unfolding with_value
agree_other N m name d out q inside = at (same_text name q) (same_text_equal name q)
  where
    clash : N q ≡ false → T (N q) → ⊥
    clash h t = subst T h t

    at : (b : Bool) → (T b → name ≡ q) → cond b d (m q) ≡ m q
    at true e = absurd (clash (subst (λ y. N y ≡ false) (e tt) out) inside)
    at false e = refl

agree_fresh : (missing : Missing) (N : Names) (own other : Map Datum) → cut_map N own ≡ cut_map N other → Agree N (run_environment missing own) (run_environment missing other)
agree_fresh missing N own other h = λ i. record {
  local = cut_map N (run_environment missing own).local;
  assigned = cut_map N (run_environment missing own).assigned;
  counters = cut_map N (run_environment missing own).counters;
  globals = h i;
  registers = (run_environment missing own).registers;
  missing = missing;
}

same_page : (setting : RunSetting) (partials : Trees) (own other : Map Datum) (nodes : Nodes) → Agree (mentioned (run_names partials nodes)) (run_environment setting.missing own) (run_environment setting.missing other) → page_by setting partials own nodes ≡ page_by setting partials other nodes
unfolding page_in
same_page setting partials own other nodes h =
    let r = agreeing_runs (setting_over partials) setting.depth nodes (run_environment setting.missing own) (run_environment setting.missing other) h in
    λ i. record { text = r.text i; fault = fault_of (r.end i) }

pub untouched : UntouchedPages
untouched c name d nodes out =
    let N = mentioned (run_names c.partials nodes) in
    same_page c.setting c.partials (with_value c.«data» name d) c.«data» nodes (agree_fresh c.setting.missing N _ _ (same_cut N _ _ (agree_other N c.«data» name d out)))

-- ---- other data

-- none of the names passes the test
none_passes : (test : Names) (names : List Text) (q : Text) → list_any test names ≡ false → list_any (same_text q) names ≡ true → test q ≡ false
none_passes test [] q out h = absurd (apart (sym h))
none_passes test (name ∷ names) q out h = on (test name) (same_text q name) refl refl out h (none_passes test names q)
  where
    on : (t b : Bool) → t ≡ test name → b ≡ same_text q name → (t || list_any test names) ≡ false → (b || list_any (same_text q) names) ≡ true → (list_any test names ≡ false → list_any (same_text q) names ≡ true → test q ≡ false) → test q ≡ false
    on true b e f k m rest = absurd (apart k)
    on false true e f k m rest = ap test (same_text_equal q name (subst T f tt)) ∙ sym e
    on false false e f k m rest = rest k m

same_value : (o p : Option Datum) → not (is_same o p) ≡ false → p ≡ o
same_value None None h = refl
same_value (Some d) (Some e) h = sym (ap Some ((same_Decides d e).0 (on (same d e) h)))
  where
    on : (b : Bool) → not b ≡ false → b ≡ true
    on true k = refl
    on false k = absurd (apart k)
same_value None (Some e) h = absurd (apart h)
same_value (Some d) None h = absurd (apart h)

agree_data : (names : List Text) (old new : Map Datum) → list_any (differs old new) names ≡ false → AgreeAt (mentioned names) new old
agree_data names old new out q inside = same_value (old q) (new q) (none_passes (differs old new) names q out (on (mentioned names q) inside))
  where
    on : (b : Bool) → T b → b ≡ true
    on true k = refl
    on false k = absurd k

pub untouched_by_data : (c : Contents) (new : Map Datum) (nodes : Nodes) → mentions_any c.partials (differs c.«data» new) nodes ≡ false → page_by c.setting c.partials new nodes ≡ page_of c nodes
untouched_by_data c new nodes out =
    let N = mentioned (run_names c.partials nodes) in
    same_page c.setting c.partials new c.«data» nodes (agree_fresh c.setting.missing N _ _ (same_cut N _ _ (agree_data (run_names c.partials nodes) c.«data» new out)))
