-- Lists whose items are alike in all that is asked of them are alike.
use Rattle.std.specs.Prelude.{◌≡◌, ℕ, zero, suc, ◌-◌, nat_le, ℤ, pos, negsuc, Bool, true, false, cond, ◌||◌, T, length, Option, Some, None, is_some, bytes_eq, codes}
use mathlib.Core.Path.{refl, sym, ap, subst, ◌∙◌}
use Rattle.std.specs.Option.{unwrap_or}
use Rattle.liquid_model.specs.Texts.{Text, same_text}
use Rattle.liquid_model.specs.Data.{Datum, array, Items, no_items, item}
use Rattle.liquid_model.specs.Digest.{items_len}
use Rattle.liquid_model.specs.Find.{counted, item_at, item_back, item_from, item_step}
use Rattle.liquid_model.specs.Lists.{list_of}
use Rattle.liquid_model.specs.Whole.{whole_text}
use Rattle.liquid_model.specs.Uses.{Use, nothing, everything, parts, Fields, no_fields, field, ItemUse, uncounted, up_to, member, Alike, AlikeFields, AlikeItems, use_of_each, join, is_place, of_places, items_wanted}
use Rattle.liquid_model.proofs.Alike.{alike_same, alike_equal, join_left, join_right, up_to_all, up_to_more, AlikeLists, pairwise_length}

pub list_lengths : (ds : Items) → length (list_of ds) ≡ items_len ds
list_lengths no_items = refl
list_lengths (item d ds) = ap suc (list_lengths ds)

pub same_lengths : (W : Use) (ds es : Items) → AlikeLists W (list_of ds) (list_of es) → items_len ds ≡ items_len es
same_lengths W ds es a = sym (list_lengths ds) ∙ (pairwise_length _ (list_of ds) (list_of es) a ∙ list_lengths es)

at_alike : (W : Use) (n : ℕ) (ds es : Items) → AlikeLists W (list_of ds) (list_of es) → Alike W (item_at n ds) (item_at n es)
at_alike W n no_items no_items a = alike_same W None
at_alike W n no_items (item e es) a = absurd a
at_alike W n (item d ds) no_items a = absurd a
at_alike W zero (item d ds) (item e es) a = a.0
at_alike W (suc n) (item d ds) (item e es) a = at_alike W n ds es a.1

back_alike : (W : Use) (n : ℕ) (ds es : Items) → AlikeLists W (list_of ds) (list_of es) → Alike W (item_back n ds) (item_back n es)
back_alike W n ds es a = subst (λ m. Alike W (item_back n ds) (cond (nat_le n m) (item_at (m - n) es) None)) (same_lengths W ds es a) (at (nat_le n (items_len ds)))
  where
    at : (b : Bool) → Alike W (cond b (item_at (items_len ds - n) ds) None) (cond b (item_at (items_len ds - n) es) None)
    at true = at_alike W (items_len ds - n) ds es a
    at false = alike_same W None

from_alike : (W : Use) (i : ℤ) (ds es : Items) → AlikeLists W (list_of ds) (list_of es) → Alike W (item_from i ds) (item_from i es)
from_alike W (pos n) ds es a = at_alike W n ds es a
from_alike W (negsuc n) ds es a = back_alike W (suc n) ds es a

-- a step into lists: an item, which is alike in W, or the length, or nothing
pub step_alike : (W u : Use) (k : Text) (ds es : Items) → AlikeLists W (list_of ds) (list_of es) → (T (is_place k) → (o p : Option Datum) → Alike W o p → Alike u o p) → Alike u (member k (Some (array ds))) (member k (Some (array es)))
step_alike W u k ds es a into = at (whole_text k) into
  where
    named : (first : Bool) → (last : Bool) → (size : Bool) → (T (first || last) → (o p : Option Datum) → Alike W o p → Alike u o p)
        → Alike u (cond first (item_at 0 ds) (cond last (item_back 1 ds) (cond size (Some (counted (items_len ds))) None))) (cond first (item_at 0 es) (cond last (item_back 1 es) (cond size (Some (counted (items_len es))) None)))
    named true last size into = into tt _ _ (at_alike W 0 ds es a)
    named false true size into = into tt _ _ (back_alike W 1 ds es a)
    named false false true into = alike_equal u _ _ (ap (λ n. Some (counted n)) (same_lengths W ds es a))
    named false false false into = alike_same u None

    at : (i : Option ℤ) → (T (is_some i || (same_text k (codes "first") || same_text k (codes "last"))) → (o p : Option Datum) → Alike W o p → Alike u o p) → Alike u (item_step i k ds) (item_step i k es)
    at (Some i) into = into tt _ _ (from_alike W i ds es a)
    at None into = named (bytes_eq k (codes "first")) (bytes_eq k (codes "last")) (bytes_eq k (codes "size")) into

fields_alike : (W : Use) (ds es : Items) → AlikeLists W (list_of ds) (list_of es) → (members : Fields) → ((o p : Option Datum) → Alike W o p → Alike (of_places members) o p) → AlikeFields members (Some (array ds)) (Some (array es))
fields_alike W ds es a no_fields into = tt
fields_alike W ds es a (field k u more) into = (step_alike W u k ds es a (here (is_place k) into), fields_alike W ds es a more (rest (is_place k) into))
  where
    here : (b : Bool) → ((o p : Option Datum) → Alike W o p → Alike (cond b (join u (of_places more)) (of_places more)) o p) → T b → (o p : Option Datum) → Alike W o p → Alike u o p
    here true into h o p a = join_left u (of_places more) o p (into o p a)
    here false into h o p a = absurd h

    rest : (b : Bool) → ((o p : Option Datum) → Alike W o p → Alike (cond b (join u (of_places more)) (of_places more)) o p) → (o p : Option Datum) → Alike W o p → Alike (of_places more) o p
    rest true into o p a = join_right u (of_places more) o p (into o p a)
    rest false into o p a = into o p a

pub array_alike : (members : Fields) (turns : ItemUse) (ds es : Items) → AlikeLists (items_wanted (parts members turns)) (list_of ds) (list_of es) → Alike (parts members turns) (Some (array ds)) (Some (array es))
array_alike members turns ds es a =
    (refl, (fields_alike (items_wanted (parts members turns)) ds es a members (λ o p h. join_right (use_of_each turns) (of_places members) o p h), over turns a))
  where
    over : (turns : ItemUse) → AlikeLists (join (use_of_each turns) (of_places members)) (list_of ds) (list_of es) → AlikeItems turns (Some (array ds)) (Some (array es))
    over uncounted a = tt
    over (up_to n u) a = up_to_more _ _ (λ d e h. join_left u (of_places members) (Some d) (Some e) h) n (list_of ds) (list_of es) (up_to_all _ n (list_of ds) (list_of es) a)

items_equal : (ds es : Items) → AlikeLists everything (list_of ds) (list_of es) → ds ≡ es
items_equal no_items no_items a = refl
items_equal no_items (item e es) a = absurd a
items_equal (item d ds) no_items a = absurd a
items_equal (item d ds) (item e es) a = λ i. item (unwrap_or (a.0 i) d) (items_equal ds es a.1 i)

-- whatever is asked of the list
pub items_alike : (u : Use) (ds es : Items) → AlikeLists (items_wanted u) (list_of ds) (list_of es) → Alike u (Some (array ds)) (Some (array es))
items_alike nothing ds es a = tt
items_alike everything ds es a = ap (λ xs. Some (array xs)) (items_equal ds es a)
items_alike (parts members turns) ds es a = array_alike members turns ds es a
