-- Pages that are right stay right under each change of a map.
use Rattle.std.specs.Prelude.{◌≡◌, Bool, true, false, cond, List, [], ◌∷◌, ◌++◌, length, suc, String, string_bytes}
use Rattle.std.specs.Ordering.{match_ordering}
use Rattle.std.specs.declared.cmp.Ordering.{Ordering}
use Rattle.std.specs.declared.cmp.Ordering.TheVariants.{Less, Equal, Greater}
use Rattle.std.specs.declared.alloc.Global.{Global}
use mathlib.Core.Path.{refl, sym, ap, subst, ◌∙◌}
use Rattle.liquid_model.specs.Texts.{Text, same_text}
use Rattle.liquid_language.specs.Entries.{seen, put_entry, placed, without}
use Rattle.liquid_syntax.proofs.Held.{order, names}
use Rattle.liquid_engine.specs.Pages.{Shown, page_view}
use Rattle.liquid_engine.specs.declared.rendered_page.Page.{Page}
use Rattle.liquid_site.specs.Contents.{Pages}
use Rattle.liquid_site.specs.inside.Fresh.{all_placed}
use Rattle.liquid_site.specs.ShownPages.{AreShown, IsWhole}

module _ {P : Type 0} (shows : Shown → P → Type 0) where
  -- the same names, and as many
  pub same_names : (ws : Pages) (ps : List (Text × P)) → AreShown shows ws ps → names ws ≡ names ps
  same_names [] [] h = refl
  same_names (w ∷ ws) (p ∷ ps) h = λ i. h.0 i ∷ same_names ws ps h.2 i
  same_names [] (p ∷ ps) h = absurd h
  same_names (w ∷ ws) [] h = absurd h

  pub same_length : (ws : Pages) (ps : List (Text × P)) → AreShown shows ws ps → length ps ≡ length ws
  same_length [] [] h = refl
  same_length (w ∷ ws) (p ∷ ps) h = ap suc (same_length ws ps h.2)
  same_length [] (p ∷ ps) h = absurd h
  same_length (w ∷ ws) [] h = absurd h

  pub shown_as : (vs ws : Pages) (qs ps : List (Text × P)) → vs ≡ ws → qs ≡ ps → AreShown shows vs qs → AreShown shows ws ps
  shown_as vs ws qs ps e f h = subst (λ l. AreShown shows l ps) e (subst (λ l. AreShown shows vs l) f h)

  pub shown_put : (name : Text) (w : Shown) (p : P) (ws : Pages) (ps : List (Text × P)) → shows w p → AreShown shows ws ps → AreShown shows (put_entry name w ws) (put_entry name p ps)
  shown_put name w p [] [] h k = (refl, h, tt)
  shown_put name w p (v ∷ ws) (q ∷ ps) h k =
      subst (λ o. AreShown shows (put_entry name w (v ∷ ws)) (match_ordering o ((name, p) ∷ q ∷ ps) ((q.0, p) ∷ ps) (q ∷ put_entry name p ps))) (ap (order name) k.0) (on (order name v.0) (shown_put name w p ws ps h k.2))
    where
      on : (o : Ordering) → AreShown shows (put_entry name w ws) (put_entry name p ps)
          → AreShown shows (match_ordering o ((name, w) ∷ v ∷ ws) ((v.0, w) ∷ ws) (v ∷ put_entry name w ws)) (match_ordering o ((name, p) ∷ q ∷ ps) ((q.0, p) ∷ ps) (q ∷ put_entry name p ps))
      on Less rest = (refl, h, k)
      on Equal rest = (k.0, h, k.2)
      on Greater rest = (k.0, k.1, rest)
  shown_put name w p [] (q ∷ ps) h k = absurd k
  shown_put name w p (v ∷ ws) [] h k = absurd k

  pub shown_without : (name : Text) (ws : Pages) (ps : List (Text × P)) → AreShown shows ws ps → AreShown shows (without name ws) (without name ps)
  shown_without name [] [] k = tt
  shown_without name (v ∷ ws) (q ∷ ps) k =
      subst (λ n. AreShown shows (without name (v ∷ ws)) (cond (same_text n name) ps (q ∷ without name ps))) k.0 (on (same_text v.0 name) (shown_without name ws ps k.2))
    where
      on : (b : Bool) → AreShown shows (without name ws) (without name ps) → AreShown shows (cond b ws (v ∷ without name ws)) (cond b ps (q ∷ without name ps))
      on true rest = k.2
      on false rest = (k.0, k.1, rest)
  shown_without name [] (q ∷ ps) k = absurd k
  shown_without name (v ∷ ws) [] k = absurd k

  shown_placed : (name : Text) (w : Shown) (p : P) (ws : Pages) (ps : List (Text × P)) → shows w p → AreShown shows ws ps → AreShown shows (placed name w ws) (placed name p ps)
  shown_placed name w p [] [] h k = tt
  shown_placed name w p (v ∷ ws) (q ∷ ps) h k =
      subst (λ n. AreShown shows (placed name w (v ∷ ws)) (cond (same_text n name) ((q.0, p) ∷ ps) (q ∷ placed name p ps))) k.0 (on (same_text v.0 name) (shown_placed name w p ws ps h k.2))
    where
      on : (b : Bool) → AreShown shows (placed name w ws) (placed name p ps) → AreShown shows (cond b ((v.0, w) ∷ ws) (v ∷ placed name w ws)) (cond b ((q.0, p) ∷ ps) (q ∷ placed name p ps))
      on true rest = (k.0, h, k.2)
      on false rest = (k.0, k.1, rest)
  shown_placed name w p [] (q ∷ ps) h k = absurd k
  shown_placed name w p (v ∷ ws) [] h k = absurd k

  pub shown_all_placed : (vs : Pages) (qs : List (Text × P)) (ws : Pages) (ps : List (Text × P)) → AreShown shows vs qs → AreShown shows ws ps → AreShown shows (all_placed vs ws) (all_placed qs ps)
  shown_all_placed [] [] ws ps h k = k
  shown_all_placed (v ∷ vs) (q ∷ qs) ws ps h k =
      shown_all_placed vs qs (placed v.0 v.1 ws) (placed q.0 q.1 ps) h.2 (subst (λ n. AreShown shows (placed v.0 v.1 ws) (placed n q.1 ps)) h.0 (shown_placed v.0 v.1 q.1 ws ps h.1 k))
  shown_all_placed [] (q ∷ qs) ws ps h k = absurd h
  shown_all_placed (v ∷ vs) [] ws ps h k = absurd h

  pub shown_append : (vs : Pages) (qs : List (Text × P)) (ws : Pages) (ps : List (Text × P)) → AreShown shows vs qs → AreShown shows ws ps → AreShown shows (vs ++ ws) (qs ++ ps)
  shown_append [] [] ws ps h k = k
  shown_append (v ∷ vs) (q ∷ qs) ws ps h k = (h.0, h.1, shown_append vs qs ws ps h.2 k)
  shown_append [] (q ∷ qs) ws ps h k = absurd h
  shown_append (v ∷ vs) [] ws ps h k = absurd h

-- ---- whole pages

pub whole_shown : (es : List (String Global × Page)) → AreShown IsWhole (seen page_view es) (seen (λ p. p) es)
whole_shown [] = tt
whole_shown (e ∷ es) = (refl, refl, whole_shown es)

pub shown_whole : (ws : Pages) (es : List (String Global × Page)) → AreShown IsWhole ws (seen (λ p. p) es) → seen page_view es ≡ ws
shown_whole [] [] h = refl
shown_whole (w ∷ ws) (e ∷ es) h = λ i. (sym h.0 i, h.1 i) ∷ shown_whole ws es h.2 i
shown_whole [] (e ∷ es) h = absurd h
shown_whole (w ∷ ws) [] h = absurd h
