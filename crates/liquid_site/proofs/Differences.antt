-- Names under which two data differ, added one after another.
use Rattle.std.specs.Prelude.{◌≡◌, Bool, true, false, cond, not, ◌&&◌, ◌||◌, List, [], ◌∷◌, filter, Option, Some, None, option_map, is_some, bytes_eq, String, string_bytes}
use Rattle.std.specs.Borrow.{Bor}
use Rattle.std.proofs.lemmas.Slice.Eq.{bytes_eq-Decides}
use Rattle.std.specs.BTreeSet.{BTreeSet}
use Rattle.std.specs.Map.{keys_of}
use Rattle.std.specs.declared.alloc.Global.{Global}
use mathlib.Core.Path.{refl, sym, ap, fun_ext, ◌∙◌}
use Rattle.liquid_model.specs.Texts.{Text}
use Rattle.liquid_model.specs.Data.{Datum, Pairs}
use Rattle.liquid_model.specs.Find.{value_at}
use Rattle.liquid_model.specs.Maps.{Map}
use Rattle.liquid_model.specs.Order.{same}
use Rattle.liquid_model.specs.View.{view, pairs_view}
use Rattle.liquid_model.specs.declared.value.Value.{Value}
use Rattle.liquid_model.proofs.Views.{Entry}
use Rattle.liquid_core.specs.Environment.{Names}
use Rattle.liquid_core.specs.Held.{map_of}
use Rattle.liquid_evaluation.specs.Names.{mentioned}
use Rattle.liquid_syntax.specs.NameSets.{added, mentioned_in_set}
use Rattle.liquid_syntax.specs.inside.NameVisitors.{added_both, or_false}
use Rattle.liquid_syntax.proofs.RunNames.{none_held}
use Rattle.liquid_site.specs.Steps.{differs, is_same}
use Rattle.liquid_site.specs.inside.Differing.{name_texts, differing}

-- ---- one name after another

pub one_added : (test : Names) (name : Text) (left : List Text) (before after all : Names) → test name ≡ true → after ≡ added (name ∷ []) before → added (filter test (name ∷ left)) before ≡ all → added (filter test left) after ≡ all
one_added test name left before after all hit is whole =
    ap (added (filter test left)) is ∙ sym (added_both (name ∷ []) (filter test left) before) ∙ sym (ap (λ b. added (cond b (name ∷ filter test left) (filter test left)) before) hit) ∙ whole

pub one_passed : (test : Names) (name : Text) (left : List Text) (before all : Names) → test name ≡ false → added (filter test (name ∷ left)) before ≡ all → added (filter test left) before ≡ all
one_passed test name left before all miss whole = sym (ap (λ b. added (cond b (name ∷ filter test left) (filter test left)) before) miss) ∙ whole

pub none_added : (h : Names) → h ≡ added [] h
unfolding added
none_added h = fun_ext (λ name. or_false (h name))

-- ---- all names

-- a name passes the test and is among the names
among : (test : Names) (names : List Text) (q : Text) → mentioned (filter test names) q ≡ (mentioned names q && test q)
among test [] q = refl
among test (name ∷ names) q = on (bytes_eq q name) (test name) refl refl (among test names q)
  where
    same_test : (b : Bool) → bytes_eq q name ≡ true → test name ≡ b → test q ≡ b
    same_test b e h = ap test ((bytes_eq-Decides q name).0 e) ∙ h

    nothing : (b : Bool) → (b && false) ≡ false
    nothing true = refl
    nothing false = refl

    on : (b t : Bool) → bytes_eq q name ≡ b → test name ≡ t → mentioned (filter test names) q ≡ (mentioned names q && test q) → mentioned (cond t (name ∷ filter test names) (filter test names)) q ≡ ((b || mentioned names q) && test q)
    on true true e h rest = ap (λ b. b || mentioned (filter test names) q) e ∙ sym (same_test true e h)
    on true false e h rest = rest ∙ ap (λ b. mentioned names q && b) (same_test false e h) ∙ nothing (mentioned names q) ∙ sym (same_test false e h)
    on false true e h rest = ap (λ b. b || mentioned (filter test names) q) e ∙ rest
    on false false e h rest = rest

has_key : (es : List Entry) (q : Text) → mentioned (name_texts (keys_of es)) q ≡ is_some (map_of (pairs_view es) q)
unfolding map_of
has_key [] q = refl
has_key (e ∷ es) q = on (bytes_eq q (string_bytes e.0)) (has_key es q)
  where
    on : (b : Bool) → mentioned (name_texts (keys_of es)) q ≡ is_some (map_of (pairs_view es) q) → (b || mentioned (name_texts (keys_of es)) q) ≡ is_some (cond b (Some (view e.1)) (map_of (pairs_view es) q))
    on true rest = refl
    on false rest = rest

-- where the data differ under a name, one of them has it
either_has : (o p : Option Datum) → ((is_some o && not (is_same o p)) || (is_some p && not (is_same o p))) ≡ not (is_same o p)
either_has None None = refl
either_has None (Some e) = refl
either_has (Some d) None = refl
either_has (Some d) (Some e) = twice (not (same d e))
  where
    twice : (b : Bool) → (b || b) ≡ b
    twice true = refl
    twice false = refl

-- the names of both that are added to none are those under which they differ
pub all_differing : (old new : List Entry) (none some all : BTreeSet (String Global)) (o n : Map Datum) → o ≡ map_of (pairs_view old) → n ≡ map_of (pairs_view new) → none.keys ≡ []
    → mentioned_in_set some ≡ added (differing o n (keys_of old)) (mentioned_in_set none) → mentioned_in_set all ≡ added (differing o n (keys_of new)) (mentioned_in_set some) → mentioned_in_set all ≡ differs o n
unfolding added
all_differing old new none some all o n is_old is_new empty first then = fun_ext (λ q.
    ap (λ h. h q) then
    ∙ ap (λ h. h q || mentioned (differing o n (keys_of new)) q) first
    ∙ ap (λ b. (b || mentioned (differing o n (keys_of old)) q) || mentioned (differing o n (keys_of new)) q) (none_held none q empty)
    ∙ (λ i. among (differs o n) (name_texts (keys_of old)) q i || among (differs o n) (name_texts (keys_of new)) q i)
    ∙ (λ i. (has_key old q i && differs o n q) || (has_key new q i && differs o n q))
    ∙ (λ i. (is_some (sym is_old i q) && differs o n q) || (is_some (sym is_new i q) && differs o n q))
    ∙ either_has (o q) (n q))

-- ---- one name

-- two values that were looked up, each as a branch has it, differ where the data do
pub found_both : (old new : Pairs) (name : Text) (o p a b : Option (Bor Value)) → o ≡ a → p ≡ b → option_map (λ v. view v.now) o ≡ value_at name old → option_map (λ v. view v.now) p ≡ value_at name new
    → not (is_same (option_map (λ v. view v.now) a) (option_map (λ v. view v.now) b)) ≡ differs (map_of old) (map_of new) name
unfolding map_of
found_both old new name o p a b d e h k =
    (λ i. not (is_same (option_map (λ v. view v.now) (sym d i)) (option_map (λ v. view v.now) (sym e i))))
    ∙ (λ i. not (is_same (h i) (k i)))
