-- Names that are put into uses one after another, each whole.
use Rattle.std.proofs.Common.{◌≡◌, Bool, true, false, cond, ◌||◌, List, ◌∷◌, String, Global, string_bytes, string_cmp, nat_cmp, bytes_eq, is_eq, refl, sym, ap, ◌∙◌}
use Rattle.std.specs.Cmp.Lexicographic.{slice_cmp, bytes_decides}
use Rattle.std.specs.List.{list_any}
use Rattle.std.specs.BTreeMap.{insert_entry, is_at}
use Rattle.std.proofs.lemmas.Map.Text.{is_eq-slice_cmp}
use Rattle.liquid_model.specs.Texts.{Text, same_text}
use Rattle.liquid_model.specs.Uses as seen
use Rattle.liquid_model.specs.Uses.{use_in, everything}
use Rattle.liquid_model.specs.UseViews.{members_view}
use Rattle.liquid_model.specs.declared.uses.Use.{Use, Everything}
use Rattle.liquid_model.proofs.UseViews.{use_inserted, view-Everything}

abbrev pub Entry : Type 0
Entry = String Global × Use

-- whether a text is among these
abbrev pub among : Text → List (String Global) → Bool
among q ks = list_any (is_at (λ k. slice_cmp nat_cmp q (string_bytes k))) ks

same_turned : (a b : Text) (x y : Bool) → bytes_eq a b ≡ x → bytes_eq b a ≡ y → x ≡ y
same_turned a b true true e f = refl
same_turned a b false false e f = refl
same_turned a b true false e f = sym ((bytes_decides b a).1 (sym ((bytes_decides a b).0 e))) ∙ f
same_turned a b false true e f = sym e ∙ (bytes_decides a b).1 (sym ((bytes_decides b a).0 f))

-- everything of each name that is left, and of any other what was put before
abbrev pub with_left : Text → List (String Global) → List Entry → seen.Use
with_left q left es = cond (among q left) everything (use_in q (members_view es))

-- a name that is put is one that is left no more
pub name_put : (q : Text) (k : String Global) (left : List (String Global)) (es : List Entry) → with_left q left (insert_entry string_cmp es k Everything) ≡ with_left q (k ∷ left) es
name_put q k left es =
    ap (cond (among q left) everything) (use_inserted q es k Everything ∙ ap (λ u. cond (same_text (string_bytes k) q) u (use_in q (members_view es))) view-Everything)
    ∙ at (same_text (string_bytes k) q) (is_eq (slice_cmp nat_cmp q (string_bytes k))) (among q left) (same_turned (string_bytes k) q _ _ refl refl ∙ sym (is_eq-slice_cmp q (string_bytes k)))
  where
    at : (b c d : Bool) → b ≡ c → cond d everything (cond b everything (use_in q (members_view es))) ≡ cond (c || d) everything (use_in q (members_view es))
    at true true true e = refl
    at true true false e = refl
    at true false d e = absurd cc
    at false true d e = absurd cc
    at false false d e = refl
