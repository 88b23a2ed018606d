-- `compact` and `default` answer alike to inputs that are alike in what they ask.
use Rattle.std.specs.Prelude.{◌≡◌, ℕ, zero, suc, Bool, true, false, cond, List, length, Option, Some, None, Ok, Err, bytes_eq, codes, not}
use mathlib.Core.Path.{refl, sym, ap, subst, ◌∙◌}
use Rattle.liquid_model.specs.Texts.{Text}
use Rattle.liquid_model.specs.Data.{Datum, array, object, Items, Pairs, no_pairs, pair, is_default_datum, no_items, item}
use Rattle.liquid_model.specs.Lists.{list_of, pair_lists}
use Rattle.liquid_model.specs.declared.error.ErrorKind.TheVariants.{InvalidInput}
use Rattle.liquid_filters.specs.Sequences.{list, all_maps, property, of_list}
use Rattle.liquid_filters.specs.Keeping.{is_nil, compact, is_given, compact_of, compact_by}
use Rattle.liquid_filters.specs.Default.{first_item_or_nil, default_answer}
use Rattle.liquid_model.specs.Uses.{Use, nothing, shape_of, Alike, present, join, items_wanted, there}
use Rattle.liquid_meaning.specs.Reads.{Both}
use Rattle.liquid_meaning.specs.FilterNeeds.{items_each, with_field}
use Rattle.liquid_model.proofs.Alike.{alike_same, alike_shape, alike_present, present_asks, join_left, join_right, AlikeLists, pairwise_length}
use Rattle.liquid_meaning.proofs.NeededItems.{AlikeAs, by_shape, answers_same, list_alike, kept_alike, property_alike, field_of, rest_of, shape_of_field, maps_same, chosen}

-- ---- compact

nil_same : (c d : Datum) → shape_of (Some c) ≡ shape_of (Some d) → is_nil c ≡ is_nil d
nil_same c d e = by_shape (λ c d. is_nil c ≡ is_nil d) (λ d. refl) (λ ds es. refl) (λ ps qs. refl) c d e

given_same : (o p : Option Datum) → shape_of o ≡ shape_of p → is_given o ≡ is_given p
given_same None None e = refl
given_same None (Some d) e = absurd cc
given_same (Some c) None e = absurd cc
given_same (Some c) (Some d) e = ap not (nil_same c d e)

module _ (v : Use) where
  abbrev w : Use
  w = items_wanted v

  pub compact_respects : (c d : Datum) → AlikeAs (items_each (present w)) c d → Both (AlikeAs v) (of_list compact c) (of_list compact d)
  compact_respects c d a = by_shape (λ c d. AlikeAs (items_each (present w)) c d → Both (AlikeAs v) (of_list compact c) (of_list compact d))
      (λ d a. answers_same v _ _ refl)
      (λ ds es a. list_alike v _ _
      (kept_alike (present w) w (λ d. not (is_nil d)) (λ d e r. ap not (nil_same d e (alike_shape (present w) (Some d) (Some e) (present_asks w) r))) (λ d e r. alike_present w (Some d) (Some e) r) (list_of ds) (list_of es) a.1.1))
      (λ ps qs a. refl) c d a.0 a

  module _ (name : Text) (no_length : bytes_eq name (codes "size") ≡ false) where
    abbrev W : Use
    W = with_field name there w

    property_given : (d e : Datum) → AlikeAs W d e → is_given (property name d) ≡ is_given (property name e)
    property_given d e r =
        let p : Alike there (property name d) (property name e) = property_alike name there d e no_length (shape_of_field name there w d e r) (field_of name there w d e r) in
        given_same (property name d) (property name e) p.0

    given_list : (ds es : List Datum) → AlikeLists W ds es → Both (AlikeAs v) (cond (all_maps ds) (Ok (list (compact_of name ds))) (Err InvalidInput)) (cond (all_maps es) (Ok (list (compact_of name es))) (Err InvalidInput))
    given_list ds es a = chosen v (all_maps ds) (all_maps es) _ _ _ _ (maps_same name there w ds es a)
        (list_alike v _ _ (kept_alike W w (λ d. is_given (property name d)) property_given (λ d e r. rest_of name there w d e r) ds es a)) refl

    pub given_respects : (c d : Datum) → AlikeAs (items_each W) c d → Both (AlikeAs v) (compact_by name c) (compact_by name d)
    given_respects c d a = by_shape (λ c d. AlikeAs (items_each W) c d → Both (AlikeAs v) (compact_by name c) (compact_by name d))
        (λ d a. answers_same v _ _ refl)
        (λ ds es a. given_list (list_of ds) (list_of es) a.1.1)
        (λ ps qs a. refl) c d a.0 a

-- ---- default

-- whether a list is empty
is_none : ℕ → Bool
is_none zero = true
is_none (suc n) = false

empty_list : (ds : Items) → is_default_datum (array ds) ≡ is_none (length (list_of ds))
unfolding is_none
empty_list no_items = refl
empty_list (item d ds) = refl

empty_map : (ps : Pairs) → is_default_datum (object ps) ≡ is_none (length (pair_lists ps))
unfolding is_none
empty_map no_pairs = refl
empty_map (pair k d ps) = refl

default_same : (c d : Datum) → AlikeAs (items_each nothing) c d → is_default_datum c ≡ is_default_datum d
default_same c d a = by_shape (λ c d. AlikeAs (items_each nothing) c d → is_default_datum c ≡ is_default_datum d) (λ d a. refl)
    (λ ds es a. empty_list ds ∙ (ap is_none (pairwise_length _ (list_of ds) (list_of es) a.1.1) ∙ sym (empty_list es)))
    (λ ps qs a. empty_map ps ∙ (ap is_none (pairwise_length _ (pair_lists ps) (pair_lists qs) a.1.1) ∙ sym (empty_map qs))) c d a.0 a

pub default_respects : (v : Use) (arguments : List Datum) (c d : Datum) → AlikeAs (join (items_each nothing) v) c d → Both (AlikeAs v) (default_answer c arguments) (default_answer d arguments)
default_respects v arguments c d a = at (is_default_datum c) (is_default_datum d) (default_same c d (join_left (items_each nothing) v (Some c) (Some d) a))
  where
    taken : (x : Bool) → AlikeAs v (cond x (first_item_or_nil arguments) c) (cond x (first_item_or_nil arguments) d)
    taken true = alike_same v (Some (first_item_or_nil arguments))
    taken false = join_right (items_each nothing) v (Some c) (Some d) a

    at : (x y : Bool) → x ≡ y → AlikeAs v (cond x (first_item_or_nil arguments) c) (cond y (first_item_or_nil arguments) d)
    at x y e = subst (λ y. AlikeAs v (cond x (first_item_or_nil arguments) c) (cond y (first_item_or_nil arguments) d)) e (taken x)
