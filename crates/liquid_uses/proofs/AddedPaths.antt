-- Paths that are added to a set, one after another.
use Rattle.std.proofs.Common.{◌≡◌, true, false, cond, ◌||◌, [], ◌∷◌, ◌++◌, List, String, Global, Option, Some, None, codes, nat_cmp, string_bytes, sym, ap, ◌∙◌}
use Rattle.std.proofs.lemmas.List.{append-nil}
use mathlib.Core.Path.{subst, fun_ext}
use Rattle.std.specs.BTreeMap.{is_at}
use Rattle.std.specs.BTreeSet.{BTreeSet}
use Rattle.std.specs.Cmp.Lexicographic.{slice_cmp}
use Rattle.std.specs.List.{list_any}
use Rattle.std.specs.Prelude.{Result, OnOk}
use Rattle.liquid_core.specs.Environment.{Names}
use Rattle.liquid_evaluation.specs.Names.{mentioned}
use Rattle.liquid_model.specs.Texts.{Text}
use Rattle.liquid_model.specs.Uses as seen
use Rattle.liquid_model.specs.Uses.{nothing, everything, parts, Fields, ItemUse, asks_whether, has_every}
use Rattle.liquid_model.specs.UseViews.{use_view, members_view, turns_view}
use Rattle.liquid_model.specs.declared.uses.Use.{Use}
use Rattle.liquid_model.specs.declared.uses.ItemUse.{ItemUse as RustItems}
use Rattle.liquid_syntax.specs.NameSets.{added, mentioned_in_set}
use Rattle.liquid_syntax.specs.inside.NameVisitors.{added_both, or_false}
use Rattle.liquid_uses.specs.Paths.{are_words, asks_members, chosen_paths, one_path, use_paths, member_paths, item_paths, paths_in}
use Rattle.liquid_uses.proofs.WholeNames.{Entry}

pub added_nothing : (h : Names) → h ≡ added [] h
unfolding added
added_nothing h = fun_ext (λ name. or_false (h name))

-- the same paths are added
pub same_added : {X E : Type 0} (r : Result X E) (n h : Names) (xs ys : List Text) → xs ≡ ys → OnOk r (n ≡ added xs h) → OnOk r (n ≡ added ys h)
same_added r n h xs ys e p = subst (λ x. OnOk r (n ≡ added x h)) e p

-- some paths, and then others
pub then_added : {X E : Type 0} (r : Result X E) (n a h : Names) (xs ys : List Text) → a ≡ added xs h → OnOk r (n ≡ added ys a) → OnOk r (n ≡ added (xs ++ ys) h)
then_added r n a h xs ys e p = subst (λ x. OnOk r (n ≡ x)) (ap (added ys) e ∙ sym (added_both xs ys h)) p

-- to no paths
pub added_first : (s : BTreeSet (String Global)) (xs : List Text) → s.keys ≡ [] → added xs (mentioned_in_set s) ≡ mentioned xs
unfolding added mentioned_in_set
added_first s xs empty = fun_ext (λ name. ap (λ ks. list_any (is_at (λ k. slice_cmp nat_cmp name (string_bytes k))) ks || mentioned xs name) empty)

-- ---- what is asked of a value

pub nothing_added : (path : Text) (h : Names) (u : seen.Use) → u ≡ nothing → h ≡ added (use_paths path u) h
unfolding use_paths
nothing_added path h u e = added_nothing h ∙ ap (λ v. added (use_paths path v) h) (sym e)

pub whole_paths : (path : Text) (u : seen.Use) → u ≡ everything → one_path (path ++ []) ≡ use_paths path u
unfolding use_paths
whole_paths path u e = ap one_path (append-nil path) ∙ sym (ap (use_paths path) e)

module _ (path : Text) (u : seen.Use) (ms : Fields) (ts : ItemUse) (is : u ≡ parts ms ts) where
  pub unwritable : are_words ms ≡ false → one_path (path ++ []) ≡ use_paths path u
  unfolding use_paths
  unwritable e = ap one_path (append-nil path)
      ∙ sym (ap (λ b. chosen_paths b (has_every ts || asks_members ms) path (member_paths path ms ++ item_paths path ts)) e)
      ∙ sym (ap (use_paths path) is)

  pub seen_only : are_words ms ≡ true → (has_every ts || asks_members ms) ≡ false → one_path (path ++ codes "?") ≡ use_paths path u
  unfolding use_paths
  seen_only w e =
      sym (ap (λ b. chosen_paths b (has_every ts || asks_members ms) path (member_paths path ms ++ item_paths path ts)) w ∙ ap (λ b. chosen_paths true b path (member_paths path ms ++ item_paths path ts)) e)
      ∙ sym (ap (use_paths path) is)

  pub all_parts : are_words ms ≡ true → (has_every ts || asks_members ms) ≡ true → member_paths path ms ++ item_paths path ts ≡ use_paths path u
  unfolding use_paths
  all_parts w e =
      sym (ap (λ b. chosen_paths b (has_every ts || asks_members ms) path (member_paths path ms ++ item_paths path ts)) w ∙ ap (λ b. chosen_paths true b path (member_paths path ms ++ item_paths path ts)) e)
      ∙ sym (ap (use_paths path) is)

-- ---- of its items

pub no_items_added : (path : Text) (h : Names) (is : Option RustItems) → is ≡ None → h ≡ added (item_paths path (turns_view is)) h
unfolding item_paths
no_items_added path h is e = added_nothing h ∙ ap (λ x. added (item_paths path (turns_view x)) h) (sym e)

module _ (path each : Text) (is : Option RustItems) (b : RustItems) (some : is ≡ Some b) (named : each ≡ path ++ codes "[]") where
  pub items_asked : (u : Use) → u ≡ b.each.value → asks_whether (use_view u) ≡ true → use_paths each (use_view u) ≡ item_paths path (turns_view is)
  unfolding item_paths
  items_asked u same e =
      sym (ap (λ w. cond w (use_paths each (use_view u)) ((each ++ codes "?") ∷ [])) e)
      ∙ (λ i. cond (asks_whether (use_view (same i))) (use_paths (named i) (use_view (same i))) ((named i ++ codes "?") ∷ []))
      ∙ sym (ap (λ x. item_paths path (turns_view x)) some)

  pub items_counted : (u : Use) → u ≡ b.each.value → asks_whether (use_view u) ≡ false → one_path (each ++ codes "?") ≡ item_paths path (turns_view is)
  unfolding item_paths
  items_counted u same e =
      sym (ap (λ w. cond w (use_paths each (use_view u)) ((each ++ codes "?") ∷ [])) e)
      ∙ (λ i. cond (asks_whether (use_view (same i))) (use_paths (named i) (use_view (same i))) ((named i ++ codes "?") ∷ []))
      ∙ sym (ap (λ x. item_paths path (turns_view x)) some)

-- ---- of its members, one after another

pub member_added : (path inner : Text) (h n : Names) (e : Entry) (left it : List Entry) → it ≡ e ∷ left → inner ≡ path ++ (codes "." ++ string_bytes e.0) → n ≡ added (use_paths inner (use_view e.1)) h
    → added (member_paths path (members_view left)) n ≡ added (member_paths path (members_view it)) h
unfolding member_paths
member_added path inner h n e left it is named put =
    ap (added (member_paths path (members_view left))) (put ∙ ap (λ p. added (use_paths p (use_view e.1)) h) named)
    ∙ sym (added_both (use_paths (path ++ (codes "." ++ string_bytes e.0)) (use_view e.1)) (member_paths path (members_view left)) h)
    ∙ ap (λ es. added (member_paths path (members_view es)) h) (sym is)

pub members_added : (path : Text) (h full : Names) (it : List Entry) → it ≡ [] → added (member_paths path (members_view it)) h ≡ full → h ≡ full
unfolding member_paths
members_added path h full it is p = added_nothing h ∙ ap (λ es. added (member_paths path (members_view es)) h) (sym is) ∙ p

pub name_added : (path : Text) (h n : Names) (e : Entry) (left it : List Entry) → it ≡ e ∷ left → path ≡ string_bytes e.0 → n ≡ added (use_paths path (use_view e.1)) h
    → added (paths_in (members_view left)) n ≡ added (paths_in (members_view it)) h
unfolding paths_in
name_added path h n e left it is named put =
    ap (added (paths_in (members_view left))) (put ∙ ap (λ p. added (use_paths p (use_view e.1)) h) named)
    ∙ sym (added_both (use_paths (string_bytes e.0) (use_view e.1)) (paths_in (members_view left)) h)
    ∙ ap (λ es. added (paths_in (members_view es)) h) (sym is)

pub names_added : (h full : Names) (it : List Entry) → it ≡ [] → added (paths_in (members_view it)) h ≡ full → h ≡ full
unfolding paths_in
names_added h full it is p = added_nothing h ∙ ap (λ es. added (paths_in (members_view es)) h) (sym is) ∙ p
