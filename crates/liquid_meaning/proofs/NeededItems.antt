-- Items that are alike in what a filter asks of them.
use Rattle.std.specs.Prelude.{◌≡◌, ℕ, suc, Bool, true, false, cond, ◌&&◌, List, [], ◌∷◌, length, Option, Some, None, Result, bytes_eq, codes, filter}
use mathlib.Core.Path.{refl, sym, ap, subst, subst₂, ◌∙◌}
use Rattle.std.specs.Option.{unwrap_or}
use Rattle.liquid_model.specs.Texts.{Text}
use Rattle.liquid_model.specs.Data.{Datum, nil, truth, number, text, array, object, Items, Pairs, no_pairs, pair}
use Rattle.liquid_model.specs.Digest.{pairs_len}
use Rattle.liquid_model.specs.Find.{counted, value_at, or_size}
use Rattle.liquid_model.specs.Lists.{list_of, pair_lists}
use Rattle.liquid_model.specs.View.{items_of}
use Rattle.liquid_model.specs.declared.error.ErrorKind.{ErrorKind}
use Rattle.liquid_filters.specs.Sequences.{list, is_map, all_maps, property}
use Rattle.liquid_filters.specs.Size.{size_of}
use Rattle.liquid_model.specs.Uses.{Use, shape_of, member, Alike, items_wanted}
use Rattle.liquid_meaning.specs.Reads.{Both}
use Rattle.liquid_meaning.specs.FilterNeeds.{items_each, with_field, one_field}
use Rattle.liquid_model.proofs.Alike.{alike_same, join_left, join_right, AlikeLists, pairwise_length}
use Rattle.liquid_model.proofs.AlikeLists.{list_lengths, items_alike}
use Rattle.liquid_meaning.proofs.Seen.{both_equal}

abbrev pub AlikeAs : Use → Datum → Datum → Type 0
AlikeAs u c d = Alike u (Some c) (Some d)

-- two values of one shape: the same scalar, two lists, or two maps
pub by_shape : (P : Datum → Datum → Type 0) → ((d : Datum) → P d d) → ((ds es : Items) → P (array ds) (array es)) → ((ps qs : Pairs) → P (object ps) (object qs)) → (c d : Datum) → shape_of (Some c) ≡ shape_of (Some d) → P c d
by_shape P scalars lists maps nil nil e = scalars nil
by_shape P scalars lists maps (truth a) (truth b) e = subst (P (truth a)) (ap (λ o. unwrap_or o nil) e) (scalars (truth a))
by_shape P scalars lists maps (number y) (number z) e = subst (P (number y)) (ap (λ o. unwrap_or o nil) e) (scalars (number y))
by_shape P scalars lists maps (text s) (text t) e = subst (P (text s)) (ap (λ o. unwrap_or o nil) e) (scalars (text s))
by_shape P scalars lists maps (array ds) (array es) e = lists ds es
by_shape P scalars lists maps (object ps) (object qs) e = maps ps qs
by_shape P scalars lists maps _ _ e = absurd cc

-- equal answers are alike
module _ (v : Use) where
  pub answers_same : (x y : Result Datum ErrorKind) → x ≡ y → Both (AlikeAs v) x y
  answers_same x y e = both_equal (AlikeAs v) (λ a. alike_same v (Some a)) x y e

of_shape : Option Datum → Bool
of_shape (Some (object ps)) = true
of_shape _ = false

-- ---- how many

map_lengths : (ps : Pairs) → length (pair_lists ps) ≡ pairs_len ps
map_lengths no_pairs = refl
map_lengths (pair k d ps) = ap suc (map_lengths ps)

pub same_size : (u : Use) (c d : Datum) → AlikeAs (items_each u) c d → size_of c ≡ size_of d
same_size u c d a = by_shape (λ c d. AlikeAs (items_each u) c d → size_of c ≡ size_of d) (λ d a. refl)
    (λ ds es a. sym (list_lengths ds) ∙ (pairwise_length _ (list_of ds) (list_of es) a.1.1 ∙ list_lengths es))
    (λ ps qs a. sym (map_lengths ps) ∙ (pairwise_length _ (pair_lists ps) (pair_lists qs) a.1.1 ∙ map_lengths qs)) c d a.0 a

-- ---- lists of alike items

listed_back : (ds : List Datum) → list_of (items_of ds) ≡ ds
listed_back [] = refl
listed_back (d ∷ ds) = ap (λ es. d ∷ es) (listed_back ds)

-- a list whose items are as wanted is as asked
pub list_alike : (v : Use) (ds es : List Datum) → AlikeLists (items_wanted v) ds es → AlikeAs v (list ds) (list es)
list_alike v ds es a = items_alike v (items_of ds) (items_of es) (subst₂ (AlikeLists (items_wanted v)) (sym (listed_back ds)) (sym (listed_back es)) a)

-- of items of which each has a twin in W that is kept where it is, those that are kept are alike in w
pub kept_alike : (W w : Use) (keeps : Datum → Bool) → ((d e : Datum) → AlikeAs W d e → keeps d ≡ keeps e) → ((d e : Datum) → AlikeAs W d e → AlikeAs w d e)
    → (ds es : List Datum) → AlikeLists W ds es → AlikeLists w (filter keeps ds) (filter keeps es)
kept_alike W w keeps same less [] [] a = tt
kept_alike W w keeps same less [] (e ∷ es) a = absurd a
kept_alike W w keeps same less (d ∷ ds) [] a = absurd a
kept_alike W w keeps same less (d ∷ ds) (e ∷ es) a = at (keeps d) (keeps e) (same d e a.0) (kept_alike W w keeps same less ds es a.1)
  where
    kept : (b : Bool) → AlikeLists w (filter keeps ds) (filter keeps es) → AlikeLists w (cond b (d ∷ filter keeps ds) (filter keeps ds)) (cond b (e ∷ filter keeps es) (filter keeps es))
    kept true rest = (less d e a.0, rest)
    kept false rest = rest

    at : (b c : Bool) → b ≡ c → AlikeLists w (filter keeps ds) (filter keeps es) → AlikeLists w (cond b (d ∷ filter keeps ds) (filter keeps ds)) (cond c (e ∷ filter keeps es) (filter keeps es))
    at b c alike rest = subst (λ c. AlikeLists w (cond b (d ∷ filter keeps ds) (filter keeps ds)) (cond c (e ∷ filter keeps es) (filter keeps es))) alike (kept b rest)

-- ---- properties

-- a property is the member, but for the length
pub property_alike : (name : Text) (w : Use) (c d : Datum) → bytes_eq name (codes "size") ≡ false → shape_of (Some c) ≡ shape_of (Some d) → Alike w (member name (Some c)) (member name (Some d)) → Alike w (property name c) (property name d)
property_alike name w c d no_length e a = by_shape (λ c d. Alike w (member name (Some c)) (member name (Some d)) → Alike w (property name c) (property name d))
    (λ d a. alike_same w (property name d)) (λ ds es a. alike_same w None) (λ ps qs a. of_maps ps qs a) c d e a
  where
    plain : (o : Option Datum) (n : ℕ) → or_size o name n ≡ o
    plain (Some d) n = refl
    plain None n = ap (λ b. cond b (Some (counted n)) None) no_length

    of_maps : (ps qs : Pairs) → Alike w (member name (Some (object ps))) (member name (Some (object qs))) → Alike w (value_at name ps) (value_at name qs)
    of_maps ps qs a = subst₂ (Alike w) (plain (value_at name ps) (pairs_len ps)) (plain (value_at name qs) (pairs_len qs)) a

pub field_of : (name : Text) (w u : Use) (c d : Datum) → AlikeAs (with_field name w u) c d → Alike w (member name (Some c)) (member name (Some d))
field_of name w u c d a = let b = join_left (one_field name w) u (Some c) (Some d) a in b.1.0.0

pub rest_of : (name : Text) (w u : Use) (c d : Datum) → AlikeAs (with_field name w u) c d → AlikeAs u c d
rest_of name w u c d a = join_right (one_field name w) u (Some c) (Some d) a

pub shape_of_field : (name : Text) (w u : Use) (c d : Datum) → AlikeAs (with_field name w u) c d → shape_of (Some c) ≡ shape_of (Some d)
shape_of_field name w u c d a = let b = join_left (one_field name w) u (Some c) (Some d) a in b.0

map_shape : (d : Datum) → is_map d ≡ of_shape (shape_of (Some d))
unfolding of_shape
map_shape nil = refl
map_shape (truth b) = refl
map_shape (number z) = refl
map_shape (text s) = refl
map_shape (array ds) = refl
map_shape (object ps) = refl

pub maps_same : (name : Text) (w u : Use) (ds es : List Datum) → AlikeLists (with_field name w u) ds es → all_maps ds ≡ all_maps es
maps_same name w u [] [] a = refl
maps_same name w u [] (e ∷ es) a = absurd a
maps_same name w u (d ∷ ds) [] a = absurd a
maps_same name w u (d ∷ ds) (e ∷ es) a = λ i. (map_shape d ∙ (ap of_shape (shape_of_field name w u d e a.0) ∙ sym (map_shape e))) i && maps_same name w u ds es a.1 i

-- what a test of maps chooses between
pub chosen : (v : Use) (b c : Bool) (x y z w : Result Datum ErrorKind) → b ≡ c → Both (AlikeAs v) x z → Both (AlikeAs v) y w → Both (AlikeAs v) (cond b x y) (cond c z w)
chosen v b c x y z w e f g = subst (λ c. Both (AlikeAs v) (cond b x y) (cond c z w)) e (at b)
  where
    at : (b : Bool) → Both (AlikeAs v) (cond b x y) (cond b z w)
    at true = f
    at false = g
