-- Rendering again what a step touches gives what rendering all from scratch gives.
use Rattle.std.specs.Prelude.{◌≡◌, Bool, true, false, cond, List, [], ◌∷◌, Option, Some, None, is_some, T}
use Rattle.std.specs.Ordering.{nat_cmp, match_ordering}
use Rattle.std.specs.Cmp.Lexicographic.{slice_cmp}
use Rattle.std.specs.declared.cmp.Ordering.{Ordering}
use Rattle.std.specs.declared.cmp.Ordering.TheVariants.{Less, Equal, Greater}
use mathlib.Core.Path.{refl, sym, ap, subst, fun_ext, ◌∙◌}
use Rattle.liquid_model.specs.Texts.{Text, same_text}
use Rattle.liquid_model.specs.Data.{Datum}
use Rattle.liquid_model.specs.Maps.{Map, listed}
use Rattle.liquid_evaluation.specs.Tree.{Nodes}
use Rattle.liquid_language.specs.Entries.{put_entry, without}
use Rattle.liquid_syntax.proofs.Held.{apart}
use Rattle.liquid_model.proofs.Maps.{same_text_equal}
use Rattle.liquid_engine.specs.Pages.{Shown, page_by}
use Rattle.liquid_site.specs.Contents.{Trees, Contents, page_of, all_pages, pages_from_scratch, mentions}
use Rattle.liquid_core.specs.DataChanges.{with_value}
use Rattle.liquid_site.specs.Steps.{Step, set_page, remove_page, set_partial, remove_partial, set_value, remove_value, set_data, no_contents, stepped, refreshed, KeptIsFromScratch, all_stepped, all_kept, PagesKept}
use Rattle.liquid_site.proofs.Untouched.{untouched, untouched_by_data}

by_order : {X Y : Type 0} (f : X → Y) (o : Ordering) (a b c : X) → f (match_ordering o a b c) ≡ match_ordering o (f a) (f b) (f c)
by_order f Less a b c = refl
by_order f Equal a b c = refl
by_order f Greater a b c = refl

pub put_shown : (show : Nodes → Shown) (name : Text) (t : Nodes) (ps : Trees) → put_entry name (show t) (all_pages show ps) ≡ all_pages show (put_entry name t ps)
put_shown show name t [] = refl
put_shown show name t (p ∷ ps) =
    let o = slice_cmp nat_cmp name p.0 in
    ap (λ l. match_ordering o ((name, show t) ∷ (p.0, show p.1) ∷ all_pages show ps) ((p.0, show t) ∷ all_pages show ps) ((p.0, show p.1) ∷ l)) (put_shown show name t ps)
    ∙ sym (by_order (all_pages show) o ((name, t) ∷ p ∷ ps) ((p.0, t) ∷ ps) (p ∷ put_entry name t ps))

on_cond : {X Y : Type 0} (f : X → Y) (b : Bool) (x y : X) → f (cond b x y) ≡ cond b (f x) (f y)
on_cond f true x y = refl
on_cond f false x y = refl

pub without_shown : (show : Nodes → Shown) (name : Text) (ps : Trees) → without name (all_pages show ps) ≡ all_pages show (without name ps)
without_shown show name [] = refl
without_shown show name (p ∷ ps) =
    let b = same_text p.0 name in
    ap (λ l. cond b (all_pages show ps) ((p.0, show p.1) ∷ l)) (without_shown show name ps) ∙ sym (on_cond (all_pages show) b ps (p ∷ without name ps))

-- what isn't touched is shown as before
pub refreshed_all : (test : Nodes → Bool) (show before : Nodes → Shown) → ((nodes : Nodes) → test nodes ≡ false → show nodes ≡ before nodes) → (ps : Trees) → refreshed test show ps (all_pages before ps) ≡ all_pages show ps
refreshed_all test show before same [] = refl
refreshed_all test show before same (p ∷ ps) = λ i. (p.0, on (test p.1) (same p.1) i) ∷ refreshed_all test show before same ps i
  where
    on : (b : Bool) → (b ≡ false → show p.1 ≡ before p.1) → cond b (show p.1) (before p.1) ≡ show p.1
    on true h = refl
    on false h = sym (h refl)

pub without_absent : {Y : Type 0} (name : Text) (ps : List (Text × Y)) → is_some (listed ps name) ≡ false → without name ps ≡ ps
unfolding listed
without_absent name [] h = refl
without_absent name (p ∷ ps) h = on (same_text p.0 name) h (without_absent name ps)
  where
    on : (b : Bool) → is_some (cond b (Some p.1) (listed ps name)) ≡ false → (is_some (listed ps name) ≡ false → without name ps ≡ ps) → cond b ps (p ∷ without name ps) ≡ p ∷ ps
    on true k rest = absurd cc
    on false k rest = ap (λ l. p ∷ l) (rest k)

pub absent_value : (m : Map Datum) (name : Text) → is_some (m name) ≡ false → with_value m name None ≡ m
unfolding with_value
absent_value m name h = fun_ext (λ q. at q (same_text name q) (same_text_equal name q))
  where
    none : (o : Option Datum) → is_some o ≡ false → None ≡ o
    none None k = refl
    none (Some d) k = absurd cc

    at : (q : Text) (b : Bool) → (T b → name ≡ q) → cond b None (m q) ≡ m q
    at q true e = none (m q) (subst (λ y. is_some (m y) ≡ false) (e tt) h)
    at q false e = refl

pub kept_from_scratch : KeptIsFromScratch
kept_from_scratch (set_page name t) c = put_shown (page_of c) name t c.pages
kept_from_scratch (remove_page name) c = without_shown (page_of c) name c.pages
kept_from_scratch (set_partial name t) c = refreshed_all _ _ (page_of c) (λ n h. absurd (apart h)) c.pages
kept_from_scratch (remove_partial name) c = refreshed_all _ _ (page_of c) (λ n h. ap (λ ps. page_by c.setting ps c.«data» n) (without_absent name c.partials h)) c.pages
kept_from_scratch (set_value name d) c = refreshed_all _ _ (page_of c) (λ n h. untouched c name (Some d) n h) c.pages
kept_from_scratch (set_data new) c = refreshed_all _ _ (page_of c) (untouched_by_data c new) c.pages
kept_from_scratch (remove_value name) c = refreshed_all _ _ (page_of c) (λ n h. on n (is_some (c.«data» name)) refl h) c.pages
  where
    on : (n : Nodes) (b : Bool) → is_some (c.«data» name) ≡ b → cond b (mentions c.partials name n) false ≡ false → page_by c.setting c.partials (with_value c.«data» name None) n ≡ page_of c n
    on n true e h = untouched c name None n h
    on n false e h = ap (λ m. page_by c.setting c.partials m n) (absent_value c.«data» name e)

all_from_scratch : (steps : List Step) (c : Contents) → all_kept steps c (pages_from_scratch c) ≡ pages_from_scratch (all_stepped steps c)
all_from_scratch [] c = refl
all_from_scratch (s ∷ ss) c = ap (all_kept ss (stepped s c)) (kept_from_scratch s c) ∙ all_from_scratch ss (stepped s c)

pub pages_kept : PagesKept
pages_kept setting steps = all_from_scratch steps (no_contents setting)
