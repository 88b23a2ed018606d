-- The use that stands at a name.
use Rattle.std.proofs.Common.{◌≡◌, List, [], ◌∷◌, String, Global, BTreeMap, Option, Some, None, option_map, Bor, Bool, true, false, cond, ◌&&◌, Ordering, Less, Equal, Greater, is_eq, bytes_eq, nat_cmp, string_bytes, string_cmp, refl, sym, ap, ◌∙◌, rules}
use mathlib.Core.Path.{subst}
use Rattle.std.specs.Cmp.Lexicographic.{slice_cmp, bytes_decides}
use Rattle.std.specs.Map.{lookup}
use Rattle.std.specs.BTreeMap.{insert_entry, is_at}
use Rattle.std.specs.Ordering.{match_ordering}
use Rattle.std.specs.Prelude.{MatchOption}
use Rattle.std.proofs.lemmas.Map.Text.{is_eq-slice_cmp}
use Rattle.liquid_model.specs.Texts.{Text, same_text}
use Rattle.liquid_model.specs.Uses as seen
use Rattle.liquid_model.specs.Uses.{use_in, includes, includes_fields, includes_items}
use Rattle.liquid_model.specs.UseViews.{use_view, members_view, turns_view}
use Rattle.liquid_model.specs.declared.uses.Use.{Use}
use Rattle.liquid_model.specs.declared.uses.Use as uses
use Rattle.liquid_model.specs.declared.uses.ItemUse.{ItemUse}

both_hold : (a b : Bool) → a ≡ true → b ≡ true → a && b ≡ true
both_hold true b e f = f
both_hold false b e f = absurd cc

-- which of two texts is asked for the other doesn't matter
turned : (a b : Text) (x y : Bool) → bytes_eq a b ≡ x → bytes_eq b a ≡ y → x ≡ y
turned a b true true e f = refl
turned a b false false e f = refl
turned a b true false e f = sym (ap (λ c. c) ((bytes_decides b a).1 (sym ((bytes_decides a b).0 e)))) ∙ f
turned a b false true e f = sym e ∙ (bytes_decides a b).1 (sym ((bytes_decides b a).0 f))

abbrev or_nothing : Option Use → seen.Use
or_nothing None = seen.nothing
or_nothing (Some u) = use_view u

at_name : (b c : Bool) (u : Use) (rest : Option Use) (v : seen.Use) → b ≡ c → v ≡ or_nothing rest → cond c (use_view u) v ≡ or_nothing (cond b (Some u) rest)
at_name true c u rest v e h = ap (λ c. cond c (use_view u) v) (sym e)
at_name false c u rest v e h = ap (λ c. cond c (use_view u) v) (sym e) ∙ h

pub use_found : (name : Text) (es : List (String Global × Use)) → use_in name (members_view es) ≡ or_nothing (lookup (is_at (λ k. slice_cmp nat_cmp name (string_bytes k))) es)
use_found name [] = refl
use_found name (e ∷ es) =
    at_name (is_eq (slice_cmp nat_cmp name (string_bytes e.0))) (same_text (string_bytes e.0) name) e.1 _ _
    (is_eq-slice_cmp name (string_bytes e.0) ∙ turned name (string_bytes e.0) _ _ refl refl) (use_found name es)

pub found_use : (name : Text) (es : List (String Global × Use)) (r : Option (Bor Use)) → option_map (λ x. x.now) r ≡ lookup (is_at (λ k. slice_cmp nat_cmp name (string_bytes k))) es
    → MatchOption r (use_in name (members_view es) ≡ seen.nothing) (λ u. use_in name (members_view es) ≡ use_view u.now)
found_use name es None e = use_found name es ∙ ap or_nothing (sym e)
found_use name es (Some u) e = use_found name es ∙ ap or_nothing (sym e)

-- ---- level by level

pub view-Nothing : use_view uses.Nothing ≡ seen.nothing
view-Nothing = search (rules, uses.the_lemmas)

pub view-Everything : use_view uses.Everything ≡ seen.everything
view-Everything = search (rules, uses.the_lemmas)

pub view-Parts : (ms : BTreeMap (String Global) Use) (is : Option ItemUse) → use_view (uses.Parts ms is) ≡ seen.parts (members_view ms.entries) (turns_view is)
view-Parts ms None = search (rules, uses.the_lemmas)
view-Parts ms (Some b) = search (rules, uses.the_lemmas)

-- ---- what everything and nothing include

mutual
  pub everything_includes : (v : seen.Use) → includes seen.everything v ≡ true
  everything_includes seen.nothing = refl
  everything_includes seen.everything = refl
  everything_includes (seen.parts members turns) = both_hold _ _ (everything_fields members) (everything_items turns)

  everything_fields : (members : seen.Fields) → includes_fields seen.everything members ≡ true
  everything_fields seen.no_fields = refl
  everything_fields (seen.field key v more) = both_hold _ _ (everything_includes v) (everything_fields more)

  everything_items : (turns : seen.ItemUse) → includes_items seen.everything turns ≡ true
  everything_items seen.uncounted = refl
  everything_items (seen.up_to n v) = everything_includes v

-- the members alone decide of fields, and the items of turns
fields_of_parts : (held : seen.Fields) (t s : seen.ItemUse) (members : seen.Fields) → includes_fields (seen.parts held t) members ≡ includes_fields (seen.parts held s) members
fields_of_parts held t s seen.no_fields = refl
fields_of_parts held t s (seen.field key v more) = ap (λ b. includes (use_in key held) v && b) (fields_of_parts held t s more)

turns_of_parts : (held other : seen.Fields) (t turns : seen.ItemUse) → includes_items (seen.parts held t) turns ≡ includes_items (seen.parts other t) turns
turns_of_parts held other t seen.uncounted = refl
turns_of_parts held other t (seen.up_to n v) = refl

pub parts_include : (held members : seen.Fields) (t turns : seen.ItemUse) (a b : Bool) → a ≡ includes_fields (seen.parts held seen.uncounted) members → b ≡ includes_items (seen.parts seen.no_fields t) turns
    → a && b ≡ includes (seen.parts held t) (seen.parts members turns)
parts_include held members t turns a b e f = ap (λ x. x && b) (e ∙ fields_of_parts held seen.uncounted t members) ∙ ap (λ y. includes_fields (seen.parts held t) members && y) (f ∙ turns_of_parts seen.no_fields held t turns)

-- ---- one more name

-- a name that isn't above or below another is that
inserted_at : (o : Ordering) (q : Text) (k : String Global) (u : Use) (e : String Global × Use) (es : List (String Global × Use)) → slice_cmp nat_cmp (string_bytes k) (string_bytes e.0) ≡ o
    → use_in q (members_view (insert_entry string_cmp es k u)) ≡ cond (same_text (string_bytes k) q) (use_view u) (use_in q (members_view es))
    → use_in q (members_view (match_ordering o ((k, u) ∷ e ∷ es) ((e.0, u) ∷ es) (e ∷ insert_entry string_cmp es k u))) ≡ cond (same_text (string_bytes k) q) (use_view u) (use_in q (members_view (e ∷ es)))
inserted_at Less q k u e es is later = refl
inserted_at Equal q k u e es is later =
    let same : string_bytes k ≡ string_bytes e.0 = (bytes_decides (string_bytes k) (string_bytes e.0)).0 (sym (is_eq-slice_cmp (string_bytes k) (string_bytes e.0)) ∙ ap is_eq is) in
    subst (λ t. cond (same_text t q) (use_view u) (use_in q (members_view es)) ≡ cond (same_text (string_bytes k) q) (use_view u) (cond (same_text t q) (use_view e.1) (use_in q (members_view es)))) same (at (same_text (string_bytes k) q))
  where
    at : (b : Bool) → cond b (use_view u) (use_in q (members_view es)) ≡ cond b (use_view u) (cond b (use_view e.1) (use_in q (members_view es)))
    at true = refl
    at false = refl
inserted_at Greater q k u e es is later = at (same_text (string_bytes e.0) q) (same_text (string_bytes k) q) refl refl
  where
    at : (b c : Bool) → same_text (string_bytes e.0) q ≡ b → same_text (string_bytes k) q ≡ c
        → cond (same_text (string_bytes e.0) q) (use_view e.1) (use_in q (members_view (insert_entry string_cmp es k u))) ≡ cond (same_text (string_bytes k) q) (use_view u) (cond (same_text (string_bytes e.0) q) (use_view e.1) (use_in q (members_view es)))
    at true true m n =
        let same : string_bytes k ≡ string_bytes e.0 = (bytes_decides (string_bytes k) q).0 n ∙ sym ((bytes_decides (string_bytes e.0) q).0 m) in
        let clash : is_eq Greater ≡ true = sym (ap is_eq is) ∙ is_eq-slice_cmp (string_bytes k) (string_bytes e.0) ∙ (bytes_decides (string_bytes k) (string_bytes e.0)).1 same in
        absurd cc
    at true false m n = rw (m, n) refl
    at false c m n = rw m later

pub use_inserted : (q : Text) (es : List (String Global × Use)) (k : String Global) (u : Use) → use_in q (members_view (insert_entry string_cmp es k u)) ≡ cond (same_text (string_bytes k) q) (use_view u) (use_in q (members_view es))
use_inserted q [] k u = refl
use_inserted q (e ∷ es) k u = inserted_at _ q k u e es refl (use_inserted q es k u)
